-- The routes of a chain and of a tree, and their rooms.
use Rattle.radix_tree.proofs.Words.{inside, none_some, ◌≡◌, ℕ, ◌+◌, ◌<◌, ◌≤◌, List, [], ◌∷◌, length, Option, Some, None, refl, ap, subst, arith, inl, inr, Id}
use Rattle.radix_tree.proofs.Words.{IsRoute, Leaves, Bits, first_room, leaf_part, ChainStands, Stands, Placed, Tree, leaf, fork, bit_at, IsAmong, IsIn, IsChain}
use Rattle.radix_tree.proofs.Words.{IsTree, HaveBit, number_of, ◌==◌, true, false, sym, ◌∙◌, eqb-true, cases_lt, LeafPart, Part, leaves_in, bits_in, one_if}
use Rattle.radix_tree.proofs.Words.{members_at, leaves_at, shown_entry, Lodged, true≢false, is_of_key, Bool, Node, IsWholeBut, nobody_out, is_some}

module _ {V : Type 0} where
  -- a list begins with a route in this room
  pub record IsHead (ms : List (Placed V)) (room : Id) : Type 0 where
    pub first : Placed V
    pub behind : List (Placed V)
    pub is : ms ≡ first ∷ behind
    pub room_is : first.room ≡ room

  pub head_of : (ms : List (Placed V)) {room : Id} → first_room ms ≡ Some room → IsHead ms room
  head_of [] begins = absurd (none_some begins)
  head_of (x ∷ xs) begins = record { first = x; behind = xs; is = refl; room_is = inside begins }

  pub same_rank : {x y : Placed V} → x ≡ y → x.entry.rank ≡ y.entry.rank
  same_rank e = ap (λ p. p.entry.rank) e

  pub chain_route : (key top : ℕ) (c : List (Placed V)) → IsChain key top c → (x : Placed V) → IsAmong x c → IsRoute x.entry
  chain_route key top [] is x among = absurd among
  chain_route key top (y ∷ c) is x among = elim among [ inl e ↦ subst (λ p. IsRoute p.entry) e is.0 | inr it ↦ chain_route key y.entry.rank c is.3 x it ]

  pub chain_key : (key top : ℕ) (c : List (Placed V)) → IsChain key top c → (x : Placed V) → IsAmong x c → x.entry.key ≡ key
  chain_key key top [] is x among = absurd among
  chain_key key top (y ∷ c) is x among = elim among [ inl e ↦ subst (λ p. p.entry.key ≡ key) e is.1 | inr it ↦ chain_key key y.entry.rank c is.3 x it ]

  pub chain_below : (key top : ℕ) (c : List (Placed V)) → IsChain key top c → (x : Placed V) → IsAmong x c → x.entry.rank < top
  chain_below key top [] is x among = absurd among
  chain_below key top (y ∷ c) is x among = search (arith, chain_below key y.entry.rank c is.3 x)

  -- of a chain the first route is of greatest rank
  pub first_greatest : (key top : ℕ) (x : Placed V) (c : List (Placed V)) → IsChain key top (x ∷ c) → (y : Placed V) → IsAmong y (x ∷ c)
      → y.entry.rank ≤ x.entry.rank
  first_greatest key top x c is y among = grind (arith, same_rank, chain_below)

  pub chain_short : (key top : ℕ) (c : List (Placed V)) → IsChain key top c → length c ≤ top
  chain_short key top [] is = omega arith
  chain_short key top (x ∷ c) is = omega (arith, chain_short key x.entry.rank c is.3)

  pub tree_route : (low : ℕ) (t : Tree V) → IsTree low t → (x : Placed V) → IsIn x t → IsRoute x.entry
  tree_route low (leaf z zs) is x at = chain_route z.entry.key 34 (z ∷ zs) is.1 x at
  tree_route low (fork room b zero one) is x at = elim at [ inl it ↦ tree_route (b + 1) zero is.1 x it | inr it ↦ tree_route (b + 1) one is.2 x it ]

  -- a bit that all keys of a tree have is each one's
  pub bit_beneath : (low b value : ℕ) (t : Tree V) → IsTree low t → HaveBit b value t → (x : Placed V) → IsIn x t → bit_at b x.entry.key ≡ value
  bit_beneath low b value (leaf z zs) is have x at = grind (arith, chain_key)
  bit_beneath low b value (fork room c zero one) is have x at =
      elim at [ inl it ↦ bit_beneath (c + 1) b value zero is.1 have.0 x it | inr it ↦ bit_beneath (c + 1) b value one is.2 have.1 x it ]

  -- ---- the room of a route
  abbrev pub IsSaid : Leaves V → Placed V → Type 0
  IsSaid L x = (above : Option Id) × (previous : Option Id) × (next : Option Id) × (L (number_of x.room) ≡ Some (leaf_part x above previous next))

  chain_said : (L : Leaves V) (above previous : Option Id) (c : List (Placed V)) → ChainStands L above previous c → (x : Placed V) → IsAmong x c → IsSaid L x
  chain_said L above previous [] stands x among = absurd among
  chain_said L above previous (y ∷ c) stands x among =
      elim among [ inl e ↦ subst (IsSaid L) e (above, previous, first_room c, stands.0) | inr it ↦ chain_said L None (Some y.room) c stands.1 x it ]

  pub tree_said : (L : Leaves V) (B : Bits) (above : Option Id) (t : Tree V) → Stands L B above t → (x : Placed V) → IsIn x t → IsSaid L x
  tree_said L B above (leaf z zs) stands x at = chain_said L above None (z ∷ zs) stands x at
  tree_said L B above (fork room b zero one) stands x at =
      search (arith, tree_said L B (Some room) zero stands.1 x, tree_said L B (Some room) one stands.2 x)

  -- -------- the route of a room that is in a tree
  abbrev pub AmongAt : ℕ → List (Placed V) → Type 0
  AmongAt n c = (y : Placed V) × IsAmong y c × (number_of y.room ≡ n)

  abbrev pub InAt : ℕ → Tree V → Type 0
  InAt n t = (y : Placed V) × IsIn y t × (number_of y.room ≡ n)

  pub among_at : (n : ℕ) (c : List (Placed V)) → 1 ≤ members_at n c → AmongAt n c
  among_at n [] some = absurd (omega arith)
  among_at n (x ∷ c) some = elim (number_of x.room == n) as (λ t. (number_of x.room == n) ≡ t → 1 ≤ one_if t + members_at n c → AmongAt n (x ∷ c)) [
    | true ↦ λ e many. (x, inl refl, eqb-true (number_of x.room) n e)
    | false ↦ λ e many. let y = among_at n c (omega arith) in (y.0, inr y.1, y.2)
  ] refl some

  -- a tree has a route in each room that is a leaf of it
  pub in_at : (n : ℕ) (t : Tree V) → 1 ≤ leaves_at n t → InAt n t
  in_at n (leaf x xs) some = among_at n (x ∷ xs) some
  in_at n (fork room b zero one) some = elim (cases_lt 0 (leaves_at n zero)) [
    | inl left ↦ let y = in_at n zero left in (y.0, inl y.1, y.2)
    | inr none ↦ let y = in_at n one (omega arith) in (y.0, inr y.1, y.2)
  ]

  -- and it is the route that the room has
  pub record RoomRoute (whole : Tree V) (n : ℕ) (p : LeafPart V) : Type 0 where
    pub route : Placed V
    pub is_in : IsIn route whole
    pub number : number_of route.room ≡ n
    pub block : route.room.block ≡ p.block
    pub entry : route.entry ≡ shown_entry p

  pub room_route : (m : Lodged V) (whole : Part m) (n : ℕ) {p : LeafPart V} → leaves_in m n ≡ Some p → 1 ≤ leaves_at n whole.tree → RoomRoute whole.tree n p
  room_route m whole n said some =
      let y = in_at n whole.tree some in
      let s = tree_said (leaves_in m) (bits_in m) whole.above whole.tree whole.stands y.0 y.1 in
      let same = inside (sym s.3 ∙ ap (leaves_in m) y.2 ∙ said) in
      record { route = y.0; is_in = y.1; number = y.2; block = ap (λ q. q.block) same; entry = ap shown_entry same }

  pub whole_route : {m : Lodged V} {root : Node} {late : ℕ → Bool} (w : IsWholeBut m root late nobody_out) (n : ℕ)
      {p : LeafPart V} → leaves_in m n ≡ Some p → RoomRoute w.part.tree n p
  whole_route {m = m} w n said = let one = ap (λ o. one_if (is_some o)) said in room_route m w.part n said (omega arith)

  -- a room of a key says so
  pub of_key : (key : ℕ) (o : Option (LeafPart V)) → is_of_key key o ≡ true → (q : LeafPart V) × (o ≡ Some q) × (q.leaf.key ≡ key)
  of_key key None is = absurd (true≢false (sym is))
  of_key key (Some q) is = (q, refl, eqb-true q.leaf.key key is)
