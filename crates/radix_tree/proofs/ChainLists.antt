-- A chain with a member more: its members and their links.
use Rattle.radix_tree.proofs.{ChainGaps.behind_stands, Facts.own_room, Facts.off_room, PartRooms.one_if_same, PartRooms.chain_frame, PartRooms.chain_there}
use Rattle.radix_tree.proofs.Words.{none_some, ◌≡◌, ℕ, ◌+◌, ◌<◌, ◌≤◌, ◌⊎◌, ◌==◌, List, [], ◌∷◌, ◌++◌, map, Some, None, refl, sym, ap, ◌∙◌, inl, inr, arith}
use Rattle.radix_tree.proofs.Words.{IsRoute, Placed, IsAmong, IsChain, BitPart, Bits, one_if, members_at, AreIdle, HasOneFork, Gains, ArePast, IsBelow, Entry}
use Rattle.radix_tree.proofs.Words.{number_of, inside, Option, Id, Leaf, LeafPart, Leaves, first_room, ChainStands, lodge_leaf, name_next, name_back, link_in}
use Rattle.radix_tree.proofs.Words.{link_out, above_behind, last_room}
use Rattle.std.proofs.lemmas.List.{map-append}

module _ {V : Type 0} where
  -- a list has a first member
  pub record IsCons (c : List (Placed V)) : Type 0 where
    pub first : Placed V
    pub rest : List (Placed V)
    pub is : c ≡ first ∷ rest

  abbrev pub cons_at : (front back : List (Placed V)) (x : Placed V) → IsCons (front ++ (x ∷ back))
  cons_at [] back x = record { first = x; rest = back; is = refl }
  cons_at (y ∷ front) back x = record { first = y; rest = front ++ (x ∷ back); is = refl }

  abbrev pub map_entries : List (Placed V) → List (Entry V)
  map_entries c = map (λ p. p.entry) c

  -- ---- how often
  pub members_append : (n : ℕ) (front back : List (Placed V)) → members_at n (front ++ back) ≡ members_at n front + members_at n back
  members_append n [] back = omega arith
  members_append n (y ∷ front) back = search (arith, members_append n front back)

  pub members_more : (n : ℕ) (front back : List (Placed V)) (x : Placed V)
      → members_at n (front ++ (x ∷ back)) ≡ members_at n (front ++ back) + one_if (number_of x.room == n)
  members_more n front back x = search (arith, members_append)

  -- ---- what is among
  pub among_more : (front back : List (Placed V)) (x y : Placed V) → IsAmong y (front ++ back) → IsAmong y (front ++ (x ∷ back))
  among_more [] back x y is = inr is
  among_more (z ∷ front) back x y is = elim is [ inl e ↦ inl e | inr later ↦ inr (among_more front back x y later) ]

  pub among_own : (front back : List (Placed V)) (x : Placed V) → IsAmong x (front ++ (x ∷ back))
  among_own [] back x = inl refl
  among_own (z ∷ front) back x = inr (among_own front back x)

  pub among_less : (front back : List (Placed V)) (x y : Placed V) → IsAmong y (front ++ (x ∷ back)) → (x ≡ y) ⊎ IsAmong y (front ++ back)
  among_less [] back x y is = is
  among_less (z ∷ front) back x y is = search (arith, among_less front back x y)

  -- a member splits a list
  pub record IsSplit (c : List (Placed V)) (x : Placed V) : Type 0 where
    pub front : List (Placed V)
    pub back : List (Placed V)
    pub is : c ≡ front ++ (x ∷ back)

  pub split_at : (c : List (Placed V)) (x : Placed V) → IsAmong x c → IsSplit c x
  split_at [] x is = absurd is
  split_at (z ∷ c) x is = elim is [
    | inl e ↦ record { front = []; back = c; is = ap (λ p. p ∷ c) e }
    | inr later ↦ let s = split_at c x later in record { front = z ∷ s.front; back = s.back; is = ap (λ ms. z ∷ ms) s.is }
  ]

  -- ---- bit nodes in use
  idle_less : (B : Bits) (front back : List (Placed V)) (x : Placed V) → AreIdle B (front ++ (x ∷ back)) → AreIdle B (front ++ back)
  idle_less B [] back x idle = idle.1
  idle_less B (y ∷ front) back x idle = (idle.0, idle_less B front back x idle.1)

  idle_more : (B : Bits) (front back : List (Placed V)) (x : Placed V) → AreIdle B (front ++ back) → B (number_of x.room) ≡ None
      → AreIdle B (front ++ (x ∷ back))
  idle_more B [] back x idle none = (none, idle)
  idle_more B (y ∷ front) back x idle none = (idle.0, idle_more B front back x idle.1 none)

  idle_one : (B : Bits) (c : List (Placed V)) → AreIdle B c → HasOneFork B c
  idle_one B [] idle = tt
  idle_one B (y ∷ c) idle = inl idle.1

  pub one_fork_less : (B : Bits) (front back : List (Placed V)) (x : Placed V) → HasOneFork B (front ++ (x ∷ back)) → HasOneFork B (front ++ back)
  one_fork_less B [] back x one = elim one [ inl idle ↦ idle_one B back idle | inr own ↦ own.1 ]
  one_fork_less B (y ∷ front) back x one = elim one [
    | inl idle ↦ inl (idle_less B front back x idle)
    | inr own ↦ inr (own.0, one_fork_less B front back x own.1)
  ]

  pub one_fork_more : (B : Bits) (front back : List (Placed V)) (x : Placed V) → HasOneFork B (front ++ back) → B (number_of x.room) ≡ None
      → HasOneFork B (front ++ (x ∷ back))
  one_fork_more B [] back x one none = inr (none, one)
  one_fork_more B (y ∷ front) back x one none = elim one [
    | inl idle ↦ inl (idle_more B front back x idle none)
    | inr own ↦ inr (own.0, one_fork_more B front back x own.1 none)
  ]

  pub idle_at : (B : Bits) (c : List (Placed V)) (y : Placed V) → AreIdle B c → IsAmong y c → B (number_of y.room) ≡ None
  idle_at B [] y idle is = absurd is
  idle_at B (z ∷ c) y idle is = elim is [ inl e ↦ ap (λ p. B (number_of p.room)) (sym e) ∙ idle.0 | inr later ↦ idle_at B c y idle.1 later ]

  -- where one member's room is a bit node in use, no other one's is
  pub others_idle : (B : Bits) (front back : List (Placed V)) (x y : Placed V) {b : BitPart} → HasOneFork B (front ++ (x ∷ back))
      → B (number_of x.room) ≡ Some b → IsAmong y (front ++ back) → B (number_of y.room) ≡ None
  others_idle B [] back x y one used is = search (arith, idle_at, none_some)
  others_idle B (z ∷ front) back x y one used is = search (arith, idle_at, among_own, others_idle B front back x y)

  -- ---- order
  chain_raise : (key low top : ℕ) (c : List (Placed V)) → low ≤ top → IsChain key low c → IsChain key top c
  chain_raise key low top [] le is = tt
  chain_raise key low top (y ∷ c) le is = (is.0, is.1, omega arith, is.3)

  pub chain_less : (key top : ℕ) (front back : List (Placed V)) (x : Placed V) → IsChain key top (front ++ (x ∷ back)) → IsChain key top (front ++ back)
  chain_less key top [] back x is = chain_raise key x.entry.rank top back (omega arith) is.3
  chain_less key top (y ∷ front) back x is = (is.0, is.1, is.2, chain_less key y.entry.rank front back x is.3)

  chain_lower : (key top rank : ℕ) (c : List (Placed V)) → IsBelow rank c → IsChain key top c → IsChain key rank c
  chain_lower key top rank c below is = search arith

  pub chain_more : {key : ℕ} (top : ℕ) (front back : List (Placed V)) (x : Placed V) → IsChain key top (front ++ back) → IsRoute x.entry → x.entry.key ≡ key
      → x.entry.rank < top → ArePast x.entry.rank front → IsBelow x.entry.rank back → IsChain key top (front ++ (x ∷ back))
  chain_more {key = key} top [] back x is route same lt past below = search (arith, chain_lower)
  chain_more top (y ∷ front) back x is route same lt past below = (is.0, is.1, is.2, chain_more y.entry.rank front back x is.3 route same past.0 past.1 below)

  -- ---- routes
  pub routes_more : (front back : List (Placed V)) (x : Placed V) → Gains x.entry (map_entries (front ++ back)) (map_entries (front ++ (x ∷ back)))
  routes_more front back x = search (arith, map-append)

  -- -------- the links of a chain with a member more, and without it
  -- ---- rooms that are not written
  next_off : (before next : Option Id) (n : ℕ) (said : Option (LeafPart V)) → ((r : Id) → before ≡ Some r → n ≡ number_of r → ⊥)
      → name_next before next n said ≡ said
  next_off before next n said other = search arith

  back_off : (behind above previous : Option Id) (n : ℕ) (said : Option (LeafPart V)) → ((r : Id) → behind ≡ Some r → n ≡ number_of r → ⊥)
      → name_back behind above previous n said ≡ said
  back_off behind above previous n said other = search arith

  -- ---- the members on both sides of a place
  own_counts : (x : Placed V) (c : List (Placed V)) → 1 ≤ members_at (number_of x.room) (x ∷ c)
  own_counts x c = let one = one_if_same (number_of x.room) in omega arith

  last_in : (x : Placed V) (c : List (Placed V)) (r : Id) → last_room (Some x.room) c ≡ Some r → 1 ≤ members_at (number_of r) (x ∷ c)
  last_in x [] r is = search (arith, inside, one_if_same)
  last_in x (y ∷ c) r is = let rest = last_in y c r is in omega arith

  pub last_among : (c : List (Placed V)) (r : Id) → last_room None c ≡ Some r → 1 ≤ members_at (number_of r) c
  last_among [] r is = absurd (none_some is)
  last_among (x ∷ c) r is = last_in x c r is

  pub first_among : (c : List (Placed V)) (r : Id) → first_room c ≡ Some r → 1 ≤ members_at (number_of r) c
  first_among c r is = search (arith, none_some, inside)

  -- ---- a chain whose end is another one
  front_linked : (L M : Leaves V) (above previous : Option Id) (front old now : List (Placed V)) → ChainStands L above previous (front ++ old)
      → ((n : ℕ) → 1 ≤ members_at n front → M n ≡ name_next (last_room None front) (first_room now) n (L n)) → ((n : ℕ) → members_at n front ≤ 1)
      → ChainStands M (above_behind above front) (last_room previous front) now → ChainStands M above previous (front ++ now)
  front_linked L M above previous [] old now stands said once rest = rest
  front_linked L M above previous (y ∷ []) old now stands said once rest = search (arith, own_counts, own_room)
  front_linked L M above previous (y ∷ z ∷ front) old now stands said once rest =
      search (arith, next_off, last_in, one_if_same, front_linked L M None (Some y.room) (z ∷ front) old now stands.1)

  -- and one whose first member has other links before it
  back_linked : (L M : Leaves V) (above previous a p : Option Id) (back : List (Placed V)) → ChainStands L above previous back
      → ((n : ℕ) → 1 ≤ members_at n back → M n ≡ name_back (first_room back) a p n (L n)) → ((n : ℕ) → members_at n back ≤ 1) → ChainStands M a p back
  back_linked L M above previous a p [] stands said once = tt
  back_linked L M above previous a p (y ∷ back) stands said once = search (arith, own_counts, own_room, chain_frame, off_room, one_if_same)

  -- ---- a member more
  abbrev pub leaf_at : (key rank : ℕ) (above : Option Id) (front back : List (Placed V)) → Leaf
  leaf_at key rank above front back =
      record { key = key; rank = rank; above = above_behind above front; next = first_room back; previous = last_room None front }

  -- a room that is not of the chain, and not the new one
  pub in_others : (L M : Leaves V) (front back : List (Placed V)) (room : Id) (value : V) (l : Leaf) (n : ℕ) → l.next ≡ first_room back
      → l.previous ≡ last_room None front → M n ≡ link_in room value l n (L n) → (n ≡ number_of room → ⊥) → members_at n (front ++ back) ≡ 0 → M n ≡ L n
  in_others L M front back room value l n next previous said other out = search (arith, members_append, back_off, first_among, next_off, last_among, off_room)

  pub linked_in : (L M : Leaves V) (above : Option Id) (front back : List (Placed V)) (x : Placed V) → ChainStands L above None (front ++ back)
      → L (number_of x.room) ≡ None → ((n : ℕ) → members_at n (front ++ back) ≤ 1)
      → ((n : ℕ) → M n ≡ link_in x.room x.entry.value (leaf_at x.entry.key x.entry.rank above front back) n (L n))
      → ChainStands M above None (front ++ (x ∷ back))
  linked_in L M above front back x stands none once said =
      let sum : (n : ℕ) → members_at n (front ++ back) ≡ members_at n front + members_at n back = λ n. members_append n front back in
      let gone = chain_there L above None (front ++ back) (number_of x.room) stands none in
      let lodged : (n : ℕ) → 1 ≤ members_at n (front ++ back) → lodge_leaf x.room x.entry.value (leaf_at x.entry.key x.entry.rank above front back) n (L n)
      ≡ L n =
      search (arith, off_room) in
      let not_first : (n : ℕ) → members_at n back ≡ 0 → (r : Id) → first_room back ≡ Some r → n ≡ number_of r → ⊥ = search (arith, first_among) in
      let not_last : (n : ℕ) → members_at n front ≡ 0 → (r : Id) → last_room None front ≡ Some r → n ≡ number_of r → ⊥ = search (arith, last_among) in
      front_linked L M above None front back (x ∷ back) stands (search (arith, back_off)) (search arith) (
        search (arith, back_off, next_off, own_room),
        back_linked L M (above_behind above front) (last_room None front) None (Some x.room) back (behind_stands L above None front back stands)
            (search (arith, next_off)) (λ n. let both = sum n in omega arith),
      )

  -- ---- a member less
  -- a room that is no neighbour stays
  pub out_others : (L M : Leaves V) (front back : List (Placed V)) (l : Leaf) (n : ℕ) → l.next ≡ first_room back → l.previous ≡ last_room None front
      → M n ≡ link_out l n (L n) → members_at n (front ++ back) ≡ 0 → M n ≡ L n
  out_others L M front back l n next previous said out = search (arith, members_append, next_off, last_among, back_off, first_among)

  pub linked_out : (L M : Leaves V) (above : Option Id) (front back : List (Placed V)) (x : Placed V) → ChainStands L above None (front ++ (x ∷ back))
      → ((n : ℕ) → members_at n (front ++ (x ∷ back)) ≤ 1)
      → ((n : ℕ) → M n ≡ link_out (leaf_at x.entry.key x.entry.rank above front back) n (L n)) → ChainStands M above None (front ++ back)
  linked_out L M above front back x stands once said =
      let few : (n : ℕ) → members_at n front + members_at n back ≤ 1 = λ n. let sum = members_append n front back in
      let more = members_more n front back x in
      let most = once n in omega arith in
      front_linked L M above None front (x ∷ back) back stands (search (arith, back_off, first_among)) (λ n. let most = few n in omega arith)
      (back_linked L M None (Some x.room) (above_behind above front) (last_room None front) back (behind_stands L above None front (x ∷ back) stands).1
      (search (arith, next_off, last_among)) (λ n. let most = few n in omega arith))
