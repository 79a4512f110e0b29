-- A value in a room changes: the tree with it, which the rooms stand for as before, and the routes.
use Rattle.radix_tree.proofs.{OrderLemmas.own_pair, TableLemmas.with_parts, TableLemmas.with_later, BestOfTree.tree_is_table, WholeRoutes.shown_is}
use Rattle.radix_tree.proofs.{WholeRoutes.all_at, WholeChanges.once_but, Facts.no_use, ChainLists.map_entries, Plugs.counted_member, Plugs.counted_leaf}
use Rattle.radix_tree.proofs.Counted.{of_rank-cons, of_rank-append, given_same}
use Rattle.radix_tree.proofs.Words.{arith, ◌≡◌, ℕ, ◌+◌, ◌≤◌, ◌==◌, Bool, if◌then◌else◌, List, ◌∷◌, Option, Some, None, refl, sym, ap, ◌∙◌, subst, inl, inr, Id}
use Rattle.radix_tree.proofs.Words.{Placed, Tree, leaf, fork, IsAmong, IsIn, IsChain, HaveBit, IsTree, LeafPart, Leaves, Bits, Heads, Masks, first_room}
use Rattle.radix_tree.proofs.Words.{name_of, ChainStands, Stands, MasksStand, Falls, IsMarked, MarkedIn, MarkedLists, members_at, leaves_at, forks_at, HasHome}
use Rattle.radix_tree.proofs.Words.{AreIdle, HasOneFork, HaveOneFork, [], ◌⊎◌, bit_at, number_of, true, false, IsTrue, ◌++◌, is_some, eqb-true, eq-eqb}
use Rattle.radix_tree.proofs.Words.{append_assoc, get, Seen, Has, seen, put_value, Node, precedes, IsTable, with_entry, routes_of, leaf_in, leaves_in, bits_in}
use Rattle.radix_tree.proofs.Words.{heads_in, masks_in, one_if, shown, IsWhole, KeepsBits, KeepsHeads, KeepsMasks, Entry, of_rank, AreCounted, Tells, Finds}
use Rattle.radix_tree.proofs.Words.{HasPair, In, Lodged, nobody_late, true≢false, AreGiven, place_of, places_in}
use Rattle.radix_tree.proofs.TableLemmas.With.{later, same, sooner}
use Rattle.radix_nodes.proofs.Callers.{get-put_room}

module _ {V : Type 0} (n : ℕ) (value : V) where
  -- ---- the routes with the value in room n
  abbrev pub valued : Placed V → Placed V
  valued x = record { room = x.room; entry = record { key = x.entry.key; rank = x.entry.rank; value = if number_of x.room == n then value else x.entry.value } }

  abbrev pub all_valued : List (Placed V) → List (Placed V)
  all_valued [] = []
  all_valued (x ∷ xs) = valued x ∷ all_valued xs

  abbrev pub tree_valued : Tree V → Tree V
  tree_valued (leaf x xs) = leaf (valued x) (all_valued xs)
  tree_valued (fork room b zero one) = fork room b (tree_valued zero) (tree_valued one)

  pub name_valued : (t : Tree V) → name_of (tree_valued t) ≡ name_of t
  name_valued t = search arith

  first_valued : (c : List (Placed V)) → first_room (all_valued c) ≡ first_room c
  first_valued c = search arith

  -- ---- a tree
  bit_valued : (b v : ℕ) (t : Tree V) → HaveBit b v t → HaveBit b v (tree_valued t)
  bit_valued b v (leaf x xs) have = have
  bit_valued b v (fork room c zero one) have = (bit_valued b v zero have.0, bit_valued b v one have.1)

  chain_valued : (key top : ℕ) (c : List (Placed V)) → IsChain key top c → IsChain key top (all_valued c)
  chain_valued key top [] is = tt
  chain_valued key top (x ∷ xs) is = search (chain_valued key x.entry.rank xs is.3)

  pub tree_is_valued : (low : ℕ) (t : Tree V) → IsTree low t → IsTree low (tree_valued t)
  tree_is_valued low (leaf x xs) is = (is.0, chain_valued x.entry.key 34 (x ∷ xs) is.1)
  tree_is_valued low (fork room b zero one) is = (
    record {
      rises = is.0.rises;
      within = is.0.within;
      agree = λ c less. let a = is.0.agree c less in (a.0, bit_valued c a.0 zero a.1, bit_valued c a.0 one a.2);
      zeros = bit_valued b 0 zero is.0.zeros;
      ones = bit_valued b 1 one is.0.ones;
    },
    tree_is_valued (b + 1) zero is.1,
    tree_is_valued (b + 1) one is.2,
  )

  -- ---- in rooms
  abbrev pub put : Bool → Option (LeafPart V) → Option (LeafPart V)
  put b None = None
  put b (Some p) = Some (record p { value = if b then value else p.value })

  module _ (L M : Leaves V) (B : Bits) (leaves : (k : ℕ) → M k ≡ put (k == n) (L k)) where
    chain_stands : (above previous : Option Id) (c : List (Placed V)) → ChainStands L above previous c → ChainStands M above previous (all_valued c)
    chain_stands above previous [] stands = tt
    chain_stands above previous (x ∷ xs) stands = grind (arith, chain_stands None (Some x.room) xs stands.1)

    pub stands_valued : (above : Option Id) (t : Tree V) → Stands L B above t → Stands M B above (tree_valued t)
    stands_valued above (leaf x xs) stands = chain_stands above None (x ∷ xs) stands
    stands_valued above (fork room b zero one) stands = grind (arith, stands_valued (Some room) zero stands.1, stands_valued (Some room) one stands.2)

  members_valued : (k : ℕ) (c : List (Placed V)) → members_at k (all_valued c) ≡ members_at k c
  members_valued k [] = refl
  members_valued k (x ∷ xs) = search (members_valued k xs)

  pub leaves_valued : (k : ℕ) (t : Tree V) → leaves_at k (tree_valued t) ≡ leaves_at k t
  leaves_valued k (leaf x xs) = members_valued k (x ∷ xs)
  leaves_valued k (fork room b zero one) = search (leaves_valued k zero, leaves_valued k one)

  pub forks_valued : (k : ℕ) (t : Tree V) → forks_at k (tree_valued t) ≡ forks_at k t
  forks_valued k (leaf x xs) = refl
  forks_valued k (fork room b zero one) = search (forks_valued k zero, forks_valued k one)

  idle_valued : (B : Bits) (c : List (Placed V)) → AreIdle B c → AreIdle B (all_valued c)
  idle_valued B [] idle = tt
  idle_valued B (x ∷ xs) idle = (idle.0, idle_valued B xs idle.1)

  one_fork_valued : (B : Bits) (c : List (Placed V)) → HasOneFork B c → HasOneFork B (all_valued c)
  one_fork_valued B [] has = tt
  one_fork_valued B (x ∷ xs) has = elim has [ inl idle ↦ inl (idle_valued B xs idle) | inr rest ↦ inr (rest.0, one_fork_valued B xs rest.1) ]

  pub spare_valued : (B : Bits) (t : Tree V) → HaveOneFork B t → HaveOneFork B (tree_valued t)
  spare_valued B (leaf x xs) have = one_fork_valued B (x ∷ xs) have
  spare_valued B (fork room b zero one) have = (spare_valued B zero have.0, spare_valued B one have.1)

  -- ---- what is in it
  among_valued : (x : Placed V) (c : List (Placed V)) → IsAmong x c → IsAmong (valued x) (all_valued c)
  among_valued x [] among = absurd among
  among_valued x (y ∷ c) among = elim among [ inl e ↦ inl (ap valued e) | inr rest ↦ inr (among_valued x c rest) ]

  pub in_valued : (x : Placed V) (t : Tree V) → IsIn x t → IsIn (valued x) (tree_valued t)
  in_valued x (leaf y ys) at = among_valued x (y ∷ ys) at
  in_valued x (fork room b zero one) at = elim at [ inl left ↦ inl (in_valued x zero left) | inr right ↦ inr (in_valued x one right) ]

  abbrev Was : (Placed V → Type 0) → Placed V → Type 0
  Was P y = (x : Placed V) × P x × (valued x ≡ y)

  among_was : (y : Placed V) (c : List (Placed V)) → IsAmong y (all_valued c) → Was (λ x. IsAmong x c) y
  among_was y [] among = absurd among
  among_was y (x ∷ c) among = elim among [ inl e ↦ (x, inl refl, e) | inr rest ↦ let w = among_was y c rest in (w.0, inr w.1, w.2) ]

  in_was : (y : Placed V) (t : Tree V) → IsIn y (tree_valued t) → Was (λ x. IsIn x t) y
  in_was y (leaf x xs) at = among_was y (x ∷ xs) at
  in_was y (fork room b zero one) at = elim at [
    | inl left ↦ let w = in_was y zero left in (w.0, inl w.1, w.2)
    | inr right ↦ let w = in_was y one right in (w.0, inr w.1, w.2)
  ]

  -- what has a home has it still, and what has one had it
  pub home_is : (key rank : ℕ) (t : Tree V) → HasHome key rank (tree_valued t) ≡ HasHome key rank t
  home_is key rank (leaf x xs) = refl
  home_is key rank (fork room b zero one) = λ i. (rank ≤ b) ⊎ (((bit_at b key ≡ 0) × home_is key rank zero i) ⊎ ((bit_at b key ≡ 1) × home_is key rank one i))

  -- ---- its lists of masks
  masks_stand : (K : Masks) (ms : List (Placed V)) → MasksStand K ms → MasksStand K (all_valued ms)
  masks_stand K [] stands = tt
  masks_stand K (x ∷ xs) stands = grind (arith, masks_stand K xs stands.1)

  falls_valued : (low top : ℕ) (ms : List (Placed V)) → Falls low top ms → Falls low top (all_valued ms)
  falls_valued low top [] falls = tt
  falls_valued low top (x ∷ xs) falls = (falls.0, falls.1, falls_valued low x.entry.rank xs falls.2)

  pub lists_valued : (H : Heads) (K : Masks) (low : ℕ) (t : Tree V) → MarkedLists H K low t → MarkedLists H K low (tree_valued t)
  lists_valued H K low (leaf x xs) lists = tt
  lists_valued H K low (fork room b zero one) lists =
      let t = fork room b zero one in
      let l = lists.0 in (
        record {
          masks = all_valued l.masks;
          begins = first_valued l.masks ∙ l.begins;
          stands = masks_stand K l.masks l.stands;
          falls = falls_valued low (b + 1) l.masks l.falls;
          has = λ y member least most. let w = in_was y t member.0 in
              subst (λ y. IsAmong y (all_valued l.masks)) w.2 (among_valued w.0 l.masks (l.has w.0 (w.1, subst (IsMarked K) (sym w.2) member.1)
              (subst (λ y. low ≤ y.entry.rank) (sym w.2) least) (subst (λ y. y.entry.rank ≤ b) (sym w.2) most)));
          within = λ y among. let w = among_was y l.masks among in
              let member = l.within w.0 w.1 in subst (MarkedIn K (tree_valued t)) w.2 (in_valued w.0 t member.0, member.1);
        },
        lists_valued H K (b + 1) zero lists.1,
        lists_valued H K (b + 1) one lists.2,
      )

  -- a route of it has its home where it had it
  pub all_valued_in : (t : Tree V) (M : Placed V → Type 0) → ((x : Placed V) → IsIn x t → HasHome x.entry.key x.entry.rank t → M (valued x))
      → (y : Placed V) → IsIn y (tree_valued t) → HasHome y.entry.key y.entry.rank (tree_valued t) → M y
  all_valued_in t M all y at home = grind (arith, in_was, home_is)

  -- -------- a value in a room changes, and with it the route that stands there
  -- ---- its routes
  -- one of them has the value, and the others are as they were
  record IsPut (e : Entry V) (old new : List (Entry V)) : Type 0 where
    front : List (Entry V)
    back : List (Entry V)
    was : old ≡ front ++ e ∷ back
    now : new ≡ front ++ record e { value = value } ∷ back

  apart : (x : Placed V) → ((number_of x.room) == n) ≡ false → (valued x).entry ≡ x.entry
  apart x other = grind arith

  here_is : (x : Placed V) → ((number_of x.room) == n) ≡ true → (valued x).entry ≡ record x.entry { value = value }
  here_is x is = search

  chain_aside : (c : List (Placed V)) → members_at n c ≡ 0 → map_entries (all_valued c) ≡ map_entries c
  chain_aside [] none = refl
  chain_aside (x ∷ xs) none = grind (arith, apart, no_use, chain_aside xs (omega arith), x.room)

  tree_aside : (t : Tree V) → leaves_at n t ≡ 0 → routes_of (tree_valued t) ≡ routes_of t
  tree_aside (leaf x xs) none = chain_aside (x ∷ xs) none
  tree_aside (fork room b zero one) none = search (tree_aside zero (omega arith), tree_aside one (omega arith))

  chain_put : (x : Placed V) (c : List (Placed V)) → number_of x.room ≡ n → IsAmong x c → members_at n c ≤ 1
      → IsPut x.entry (map_entries c) (map_entries (all_valued c))
  chain_put x [] is among once = absurd among
  chain_put x (y ∷ c) is among once = elim among [
    | inl e ↦ let at = eq-eqb (number_of y.room) n (ap (λ p. (number_of p.room)) e ∙ is) in
        let none : members_at n c ≡ 0 = omega (arith, ap one_if at) in
        subst (λ p. IsPut p.entry (y.entry ∷ map_entries c) (map_entries (all_valued (y ∷ c)))) e (record {
          front = [];
          back = map_entries c;
          was = refl;
          now = ap (λ f. f ∷ map_entries (all_valued c)) (here_is y at) ∙ ap (λ es. record y.entry { value = value } ∷ es) (chain_aside c none);
        })
    | inr rest ↦ let some = subst (λ k. 1 ≤ members_at k c) is (counted_member x c rest) in
        let p = chain_put x c is rest (omega arith) in
        record {
          front = y.entry ∷ p.front;
          back = p.back;
          was = ap (λ es. y.entry ∷ es) p.was;
          now = ap (λ f. f ∷ map_entries (all_valued c)) (apart y (no_use ((number_of y.room) == n) (omega arith))) ∙ ap (λ es. y.entry ∷ es) p.now;
        }
  ]

  tree_put : (x : Placed V) (t : Tree V) → number_of x.room ≡ n → IsIn x t → leaves_at n t ≤ 1 → IsPut x.entry (routes_of t) (routes_of (tree_valued t))
  tree_put x (leaf y ys) is at once = chain_put x (y ∷ ys) is at once
  tree_put x (fork room b zero one) is at once = elim at [
    | inl left ↦ let some = subst (λ k. 1 ≤ leaves_at k zero) is (counted_leaf x zero left) in
        let p = tree_put x zero is left (omega arith) in
        record {
          front = p.front;
          back = p.back ++ routes_of one;
          was = ap (λ es. es ++ routes_of one) p.was ∙ append_assoc p.front (x.entry ∷ p.back) (routes_of one);
          now = ap (λ es. es ++ routes_of (tree_valued one)) p.now
              ∙ ap (λ es. (p.front ++ record x.entry { value = value } ∷ p.back) ++ es) (tree_aside one (omega arith))
              ∙ append_assoc p.front (record x.entry { value = value } ∷ p.back) (routes_of one);
        }
    | inr right ↦ let some = subst (λ k. 1 ≤ leaves_at k one) is (counted_leaf x one right) in
        let p = tree_put x one is right (omega arith) in
        record {
          front = routes_of zero ++ p.front;
          back = p.back;
          was = ap (λ es. routes_of zero ++ es) p.was ∙ sym (append_assoc (routes_of zero) p.front (x.entry ∷ p.back));
          now = ap (λ es. es ++ routes_of (tree_valued one)) (tree_aside zero (omega arith)) ∙ ap (λ es. routes_of zero ++ es) p.now
              ∙ sym (append_assoc (routes_of zero) p.front (record x.entry { value = value } ∷ p.back));
        }
  ]

  placed_in : (front back : List (Entry V)) (x : Entry V) → IsTable (front ++ x ∷ back)
      → with_entry (record x { value = value }) (front ++ x ∷ back) ≡ front ++ record x { value = value } ∷ back
  placed_in [] back x table = elim (with_parts (record x { value = value }) x back table) [
    | later ahead differs is ↦ absurd (true≢false (sym (own_pair x) ∙ differs))
    | same pair at gone is alone ↦ is
    | sooner ahead differs gone is ↦ absurd (true≢false (sym (own_pair x) ∙ differs))
  ]
  placed_in (f ∷ front) back x table =
      with_later (record x { value = value }) f (front ++ x ∷ back) (all_at (λ g. IsTrue (precedes f g)) front back x table.1)
      ∙ ap (λ es. f ∷ es) (placed_in front back x table.2)

-- ---- the rooms
module _ {V : Type 0} where
  -- but for the value in one room they say what they said
  pub record IsValued (m new : Lodged V) (n : ℕ) (value : V) : Type 0 where
    pub leaves : (k : ℕ) → leaves_in new k ≡ put n value (k == n) (leaves_in m k)
    pub bits : KeepsBits m new
    pub heads : KeepsHeads m new
    pub masks : KeepsMasks m new

  some_put : (n : ℕ) (value : V) (b : Bool) (o : Option (LeafPart V)) → is_some (put n value b o) ≡ is_some o
  some_put n value b o = search arith

  module _ {m new : Lodged V} {n : ℕ} {value : V} {root : Node} (v : IsValued m new n value) (w : IsWhole m root) where
    whole_and_shown : IsWhole new root × (shown new (Some root) ≡ routes_of (tree_valued n value w.part.tree))
    whole_and_shown =
        let t = tree_valued n value w.part.tree in
        let stands = stands_valued n value (leaves_in m) (leaves_in new) (bits_in m) v.leaves w.part.above w.part.tree w.part.stands in
        let is : IsWhole new root = record {
          part = record {
            tree = t;
            low = w.part.low;
            above = w.part.above;
            is = tree_is_valued n value w.part.low w.part.tree w.part.is;
            stands = subst (λ B. Stands (leaves_in new) B w.part.above t) (sym (λ i k. v.bits k i)) stands;
          };
          low = w.low;
          top = w.top;
          named = name_valued n value w.part.tree ∙ w.named;
          leaves = λ k. ap (λ j. j + 0) (leaves_valued n value k w.part.tree) ∙ w.leaves k ∙ ap one_if
              (sym (some_put n value (k == n) (leaves_in m k)) ∙ ap is_some (sym (v.leaves k)));
          forks = λ k. forks_valued n value k w.part.tree ∙ w.forks k ∙ ap (λ o. one_if (is_some o)) (sym (v.bits k));
          spare = subst (λ B. HaveOneFork B t) (sym (λ i k. v.bits k i)) (spare_valued n value (bits_in m) w.part.tree w.spare);
          lists = subst (λ H. MarkedLists H (masks_in new) w.part.low t) (sym (λ i k. v.heads k i))
              (subst (λ K. MarkedLists (heads_in m) K w.part.low t) (sym (λ i k. v.masks k i))
              (lists_valued n value (heads_in m) (masks_in m) w.part.low w.part.tree w.lists));
          listed = λ k p some.
              let l = w.listed k p (sym (v.masks k) ∙ some) in (
                valued n value l.0,
                in_valued n value l.0 w.part.tree l.1,
                l.2,
                subst (λ T. T) (sym (home_is n value l.0.entry.key l.0.entry.rank w.part.tree)) l.3,
              );
          all = all_valued_in n value w.part.tree (λ x. IsMarked (masks_in new) x ⊎ (nobody_late (number_of x.room) ≡ true))
              (λ x at home. elim (w.all x at home) [
                | inl marked ↦ inl (ap is_some (v.masks (number_of x.room)) ∙ marked)
                | inr late ↦ inr late
              ]);
        } in (is, shown_is is)

    pub valued_whole : IsWhole new root
    valued_whole = (whole_and_shown).0

    pub valued_shown : (x : Placed V) → number_of x.room ≡ n → IsIn x w.part.tree
        → shown new (Some root) ≡ with_entry (record x.entry { value = value }) (shown m (Some root))
    valued_shown x is at =
        let p = tree_put n value x w.part.tree is at ((once_but w).leaves n) in
        grind (arith, whole_and_shown, placed_in, tree_is_table, shown_is, p.now, p.front, p.back, x.entry, p.was, w.part.low, w.part.tree, w.part.is)

  -- ---- a room whose value is written
  module _ (m : Lodged V) (room : Id) (value : V) (h : Has m room) where
    put_get : (k : ℕ) → get (put_value m room value) k ≡ (if k == (number_of room) then Some (seen room.block value h.room.links) else get m k)
    put_get k = grind (arith, get-put_room)

    kept : {A : Type 0} (r : Option (Seen V) → A) → r (Some (seen room.block value h.room.links)) ≡ r (Some h.room) → (k : ℕ)
        → r (get (put_value m room value) k) ≡ r (get m k)
    kept r alike k = grind (arith, put_get)

    pub put_valued : IsValued m (put_value m room value) (number_of room) value
    put_valued = grind (arith, put_get, eqb-true)

  -- ---- a pair's value is written
  module _ (m : Lodged V) {root : Node} (w : IsWhole m root) (key rank : ℕ) {o : Option Id} {room : Id} (some : o ≡ Some room)
      (tells : Tells (Finds (HasPair key rank) (In w.part)) o) (h : Has m room) (value : V) where
    abbrev told : Tells (Finds (HasPair key rank) (In w.part)) (Some room)
    told = subst (Tells (Finds (HasPair key rank) (In w.part))) some tells

    pub lent_shown : shown (put_value m room value) (Some root) ≡ with_entry (record { key = key; rank = rank; value = value }) (shown m (Some root))
    lent_shown = valued_shown (put_valued m room value h) w told.0 (ap (λ i. (number_of i)) told.1) told.2.0
        ∙ (search (told.2.1.0, told.2.1.1))

    pub lent_counted : (counts : List ℕ) → AreCounted counts (shown m (Some root)) → AreCounted counts (shown (put_value m room value) (Some root))
    lent_counted counts counted r fits =
        let e = told.0.entry in
        let p = tree_put (number_of room) value told.0 w.part.tree (ap (λ i. (number_of i)) told.1) told.2.0 ((once_but w).leaves (number_of room)) in
        let put_in : Entry V = record e { value = value } in
        counted r fits ∙ ap (of_rank r) (shown_is w ∙ p.was) ∙ of_rank-append r p.front (e ∷ p.back)
        ∙ ap (λ k. of_rank r p.front + k) (of_rank-cons r e p.back ∙ sym (of_rank-cons r put_in p.back))
        ∙ sym (of_rank-append r p.front (put_in ∷ p.back)) ∙ ap (of_rank r) (sym p.now ∙ sym (whole_and_shown (put_valued m room value h) w).1)

  pub lent_given : (m : Lodged V) (room : Id) (value : V) {given : List (ℕ × ℕ)} {last : ℕ} → Has m room → AreGiven m given last
      → AreGiven (put_value m room value) given last
  lent_given m room value h are = given_same m (put_value m room value) are (kept m room value h (λ (o : Option (Seen V)). is_some (leaf_in o)) refl)

  pub lent_places : (m : Lodged V) (room : Id) (value : V) → Has m room → (n : ℕ) → places_in (put_value m room value) n ≡ places_in m n
  lent_places m room value h =
      kept m room value h (λ (o : Option (Seen V)). place_of (leaf_in o)) (ap (λ b. place_of (leaf_in (Some (seen b value h.room.links)))) (sym h.block))
