-- The routes of a tree, from left to right, are a table, of which the search finds the best one.
use Rattle.radix_tree.proofs.{ListLemmas.all_append, OrderLemmas.precedes_in_words, LawLemmas.best_is_unique, RoomReads.Has-leaf, RoomReads.value_read}
use Rattle.radix_tree.proofs.TreeMembers.{chain_key, chain_below, tree_route, bit_beneath, tree_said}
use Rattle.radix_tree.proofs.MemberLemmas.{all_contains, all_stand, members_stand, best_is_member}
use Rattle.radix_tree.proofs.Words.{◌≡◌, ℕ, ◌+◌, ◌/◌, ◌^◌, ◌<◌, ◌≤◌, IsTrue, List, [], ◌∷◌, ◌++◌, map, refl, inl, inr, sym, ◌∙◌, arith, cases_lt}
use Rattle.radix_tree.proofs.Words.{AllByRecursion, precedes, IsTable, Placed, Tree, leaf, fork, IsAmong, IsIn, IsChain, IsFork, IsTree, routes_of, Entry}
use Rattle.radix_tree.proofs.Words.{Option, Some, None, ap, subst, Contains, best_of, StandsIn, Agrees, Best, get, Seen, Has, Id, Leaf, LeafPart, Part}
use Rattle.radix_tree.proofs.Words.{leaves_in, bits_in, leaf_part, Tells, Finds, HasPair, In, Lodged, number_of}
use Rattle.mask_table.proofs.Agreeing.{front_of_bits, front_suc}
use Rattle.radix_tree.specs.Tree.{bit_at, Covers}

monotone : (k x y : ℕ) → y ≤ x → y / 2 ^ k ≤ x / 2 ^ k
monotone k x y le = grind arith

-- an address is smaller where the first bit that differs is 0
less : (b x y : ℕ) → b ≤ 31 → x < 2 ^ 32 → y < 2 ^ 32 → ((c : ℕ) → c < b → bit_at c x ≡ bit_at c y) → bit_at b x ≡ 0 → bit_at b y ≡ 1 → x < y
unfolding bit_at
less b x y within fits_x fits_y same zero one =
    let inside : b < 32 = omega arith in
    let of_x = front_suc b x inside in
    let of_y = front_suc b y inside in
    search (arith, cases_lt, monotone, front_of_bits)

module _ {V : Type 0} where
  -- ---- what holds of all routes of a tree
  all_among : (P : Entry V → Type 0) (c : List (Placed V)) → ((y : Placed V) → IsAmong y c → P y.entry) → AllByRecursion P (map (λ (p : Placed V). p.entry) c)
  all_among P [] each = tt
  all_among P (x ∷ c) each = (each x (inl refl), all_among P c (λ y among. each y (inr among)))

  pub all_in : (P : Entry V → Type 0) (t : Tree V) → ((y : Placed V) → IsIn y t → P y.entry) → AllByRecursion P (routes_of t)
  all_in P (leaf x xs) each = all_among P (x ∷ xs) each
  all_in P (fork room b zero one) each = search (arith, all_append, all_in P zero, all_in P one)

  -- ---- their order
  chain_is_table : (key top : ℕ) (c : List (Placed V)) → IsChain key top c → IsTable (map (λ (p : Placed V). p.entry) c)
  chain_is_table key top [] is = tt
  chain_is_table key top (x ∷ c) is = (
    is.0,
    all_among (λ f. IsTrue (precedes x.entry f)) c (grind (arith, chain_key, chain_below)),
    chain_is_table key x.entry.rank c is.3,
  )

  joined : (xs ys : List (Entry V)) → IsTable xs → IsTable ys → AllByRecursion (λ e. AllByRecursion (λ f. IsTrue (precedes e f)) ys) xs → IsTable (xs ++ ys)
  joined [] ys left right before = right
  joined (x ∷ xs) ys left right before = (left.0, grind (arith, all_append), joined xs ys left.2 right before.1)

  -- what is beneath a bit node on the one side precedes what is on the other
  sides_precede : {low : ℕ} (b : ℕ) (zero one : Tree V) → IsFork low b zero one → IsTree (b + 1) zero → IsTree (b + 1) one → (x y : Placed V) → IsIn x zero
      → IsIn y one → IsTrue (precedes x.entry y.entry)
  sides_precede b zero one is zeros ones x y left right =
      (precedes_in_words x.entry y.entry).1 (inl (less b x.entry.key y.entry.key is.within (tree_route (b + 1) zero zeros x left).address
      (tree_route (b + 1) one ones y right).address (λ c before. let agreed =
      is.agree c before in bit_beneath (b + 1) c agreed.0 zero zeros agreed.1 x left ∙ sym (bit_beneath (b + 1) c agreed.0 one ones agreed.2 y right))
      (bit_beneath (b + 1) b 0 zero zeros is.zeros x left) (bit_beneath (b + 1) b 1 one ones is.ones y right)))

  pub tree_is_table : (low : ℕ) (t : Tree V) → IsTree low t → IsTable (routes_of t)
  tree_is_table low (leaf x xs) is = chain_is_table x.entry.key 34 (x ∷ xs) is.1
  tree_is_table low (fork room b zero one) is = joined (routes_of zero) (routes_of one) (tree_is_table (b + 1) zero is.1) (tree_is_table (b + 1) one is.2)
      (search (all_in, sides_precede))

  -- -------- the best route that is found in a tree is that of its list of routes
  -- ---- the routes of a tree and the members of its list
  abbrev IsOf : Tree V → Entry V → Type 0
  IsOf t e = (x : Placed V) × IsIn x t × (x.entry ≡ e)

  -- each member is a route of the tree
  pub member_of : (t : Tree V) (e : Entry V) → Contains (routes_of t) e → IsOf t e
  member_of t e member = all_contains (IsOf t) (routes_of t) e (all_in (IsOf t) t (λ y at. (y, at, refl))) member

  -- what holds of all members holds of each route
  all_parted : (P : Entry V → Type 0) (es fs : List (Entry V)) → AllByRecursion P (es ++ fs)
      → AllByRecursion P es × AllByRecursion P fs
  all_parted P [] fs all = (tt, all)
  all_parted P (e ∷ es) fs all = let rest = all_parted P es fs all.1 in ((all.0, rest.0), rest.1)

  of_chain : (P : Entry V → Type 0) (c : List (Placed V)) → AllByRecursion P (map (λ (p : Placed V). p.entry) c)
      → (x : Placed V) → IsAmong x c → P x.entry
  of_chain P [] all x among = absurd among
  of_chain P (y ∷ c) all x among =
      elim among [ inl is ↦ subst (λ p. P p.entry) is all.0 | inr later ↦ of_chain P c all.1 x later ]

  of_all : (P : Entry V → Type 0) (t : Tree V) → AllByRecursion P (routes_of t) → (x : Placed V) → IsIn x t → P x.entry
  of_all P (leaf z zs) all x at = of_chain P (z ∷ zs) all x at
  of_all P (fork room b zero one) all x at =
      let both = all_parted P (routes_of zero) (routes_of one) all in
      elim at [ inl left ↦ of_all P zero both.0 x left | inr right ↦ of_all P one both.1 x right ]

  -- each route of a tree stands in its list
  pub stands_in : (low : ℕ) (t : Tree V) → IsTree low t → (x : Placed V) → IsIn x t → StandsIn (routes_of t) x.entry
  stands_in low t is x at = of_all (StandsIn (routes_of t)) t (all_stand (routes_of t) (tree_is_table low t is)) x at

  -- and what stands there is one
  pub standing : (low : ℕ) (t : Tree V) → IsTree low t → (e : Entry V) → StandsIn (routes_of t) e → IsOf t e
  standing low t is e stands = member_of t e (grind (arith, members_stand, tree_is_table))

  -- ---- the best route
  pub agreeing : (address : ℕ) (e : Entry V) → Covers address e → Agrees address e
  unfolding Covers
  agreeing address e covers = covers

  covering : (address : ℕ) (e : Entry V) → Agrees address e → Covers address e
  unfolding Covers
  covering address e agrees = agrees

  below_34 : (low : ℕ) (t : Tree V) → IsTree low t → (y : Placed V) → IsIn y t → y.entry.rank < 34
  below_34 low t is y at = omega (arith, (tree_route low t is y at).rank)

  pub some_best : (address low : ℕ) (t : Tree V) → IsTree low t → (x : Placed V) → Best address 0 34 (λ y. IsIn y t) (Some x)
      → best_of address (routes_of t) ≡ Some x.entry
  some_best address low t is x best =
      grind (arith, best_is_unique, tree_is_table, stands_in, agreeing, standing, covering, below_34, best.2)

  none_of : (address low : ℕ) (t : Tree V) → IsTree low t → Best address 0 34 (λ y. IsIn y t) None → (o : Option (Entry V)) → best_of address (routes_of t) ≡ o
      → o ≡ None
  none_of address low t is best None e = refl
  none_of address low t is best (Some f) e =
      let member = best_is_member address (routes_of t) f e in
      let of = member_of t f member.0 in
      let never = best of.0 of.1 (covering address of.0.entry (subst (Agrees address) (sym of.2) member.1)) (below_34 low t is of.0 of.1) in
      absurd (omega arith)

  pub no_best : (address low : ℕ) (t : Tree V) → IsTree low t → Best address 0 34 (λ y. IsIn y t) None → best_of address (routes_of t) ≡ None
  no_best address low t is best = grind (arith, none_of)

-- -------- what is read of the room that a search found
module _ {V : Type 0} {m : Lodged V} where
  -- the best route, and what its room says as a leaf
  pub record Answer (p : Part m) (address : ℕ) (room : Id) : Type 0 where
    pub route : Placed V
    pub room_is : route.room ≡ room
    pub best : Best address 0 34 (In p) (Some route)
    pub part : LeafPart V
    pub said : leaves_in m (number_of room) ≡ Some part
    pub block : part.block ≡ room.block
    pub is : record { key = part.leaf.key; rank = part.leaf.rank; value = part.value } ≡ route.entry

  pub answer : (p : Part m) {address : ℕ} {room : Id} {o : Option Id} → o ≡ Some room → Tells (Best address 0 34 (In p)) o → Answer p address room
  answer p {address} some tells =
      let told = subst (Tells (Best address 0 34 (In p))) some tells in
      let said = tree_said (leaves_in m) (bits_in m) p.above p.tree p.stands told.0 told.2.0 in
      record {
        route = told.0;
        room_is = told.1;
        best = told.2;
        part = leaf_part told.0 said.0 said.1 said.2;
        said = ap (λ i. leaves_in m (number_of i)) (sym told.1) ∙ said.3;
        block = ap (λ i. i.block) told.1;
        is = refl;
      }

  pub Has-best : {p : Part m} {address : ℕ} {room : Id} → Answer p address room → Has m room
  Has-best {room = room} a = Has-leaf m room a.said a.block

  pub best_answer : {p : Part m} {address : ℕ} {room : Id} (a : Answer p address room) {l : Leaf} (value : V) → l ≡ a.part.leaf
      → ((s : Seen V) → get m (number_of room) ≡ Some s → value ≡ s.value)
      → Some (record { key = l.key; rank = l.rank; value = value }) ≡ best_of address (routes_of p.tree)
  best_answer {p} {address} {room} a value l_is value_is = grind (arith, value_read, some_best, l_is)

  -- its pair is found by its leaf
  pub best_pair : {p : Part m} {address : ℕ} {room : Id} (a : Answer p address room) {l : Leaf} → l ≡ a.part.leaf → {o : Option Id} → o ≡ Some room
      → Tells (Finds (HasPair l.key l.rank) (In p)) o
  best_pair {p} a {l} l_is some = subst (Tells (Finds (HasPair l.key l.rank) (In p))) (sym some) (a.route, a.room_is, search)

  pub best_none : (p : Part m) (address : ℕ) {o : Option Id} → o ≡ None → Tells (Best address 0 34 (In p)) o → None ≡ best_of address (routes_of p.tree)
  best_none p address none tells = grind (arith, no_best)
