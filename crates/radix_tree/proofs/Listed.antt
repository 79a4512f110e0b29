-- The mask of a route comes into the list of its bit node, or goes out of it: the table's rooms as a whole.
use Rattle.radix_tree.proofs.{Parts.fork_is, Parts.way_leads, WholeChanges.with_late, Climbs.used, Facts.some_of}
use Rattle.radix_tree.proofs.MaskLists.{sorted_here, among_sorted, sorted_among, falls_sorted, taken_among, among_taken, falls_taken, ranked_in, masks_listed}
use Rattle.radix_tree.proofs.MaskLists.{falls_among}
use Rattle.radix_tree.proofs.HomeLists.{or_right, one_room, one_of_bit, home_has, tree_of, home_list, home_inside, relisted, whole_kept}
use Rattle.radix_tree.proofs.Words.{none_some, ◌≡◌, ℕ, ◌+◌, ◌≤◌, ◌==◌, Bool, true, not, ◌&&◌, ◌||◌, List, Option, Some, None, refl, inl, inr, sym, ap, ◌∙◌}
use Rattle.radix_tree.proofs.Words.{subst, arith, eq-eqb, ne_eqb, cases_eq, is_some, Id, Node, Placed, IsAmong, IsIn, MaskPart, Part, heads_in, masks_in}
use Rattle.radix_tree.proofs.Words.{HasHome, KeepsLeaves, KeepsBits, AreOnce, IsMarked, IsMaskList, MarkedIn, IsWholeBut, nobody_late, nobody_out, MasksAt}
use Rattle.radix_tree.proofs.Words.{KeepsAsideBut, KeepsMarksBut, IsBitNode, IsFree, IsAside, IsNoRank, HomeAt, IsHome, sorted_in, taken_out, Lodged}
use Rattle.radix_tree.proofs.Words.{true≢false, number_of}

module _ {V : Type 0} where
  -- ---- a mask comes into the list of its home
  pub record IsSortedIn (m new : Lodged V) (node room : Id) : Type 0 where
    pub list : (ms : List (Placed V)) (f : IsFree m room) → MasksAt m node ms → IsNoRank f.is.entry.rank ms → MasksAt new node (sorted_in f.is ms)
    pub heads : (n : ℕ) → (n ≡ number_of node → ⊥) → heads_in new n ≡ heads_in m n
    pub masks : KeepsAsideBut m new node room
    pub marked : is_some (masks_in new (number_of room)) ≡ true
    pub marks : KeepsMarksBut m new room

  -- a route of the whole in a room, and the home of its mask
  pub record Homed (m : Lodged V) (whole : Part m) (room node : Id) : Type 0 where
    pub is : Placed V
    pub inside : IsIn is whole.tree
    pub room_is : is.room ≡ room
    pub home : HomeAt m is.entry.key is.entry.rank whole node

  module _ {m : Lodged V} {whole : Part m} {room node : Id} (y : Homed m whole room node) where
    abbrev list_at : Type 0
    list_at = IsMaskList (masks_in m) (heads_in m (number_of node)) y.home.part.low y.home.at.bit (MarkedIn (masks_in m) (tree_of y.home))

    in_home : IsIn y.is (tree_of y.home)
    in_home = search (arith, way_leads)

    to_whole : (x : Placed V) → IsIn x (tree_of y.home) → IsIn x whole.tree
    to_whole x is = home_inside y.home x is

    -- a member of the list of the route's rank is the route
    rank_is : (x : Placed V) → IsIn x (tree_of y.home) → x.entry.rank ≡ y.is.entry.rank → x ≡ y.is
    rank_is x is same =
        let h = y.home in
        one_of_bit h.part.low h.at.bit node h.at.zero h.at.one (fork_is h.at) x y.is is in_home same (omega arith)

    are_masks : (l : list_at) → MasksAt m node l.masks
    are_masks l =
        let h = y.home in
        masks_listed h.part l (fork_is h.at).0.within (λ x is. subst (IsIn x) (sym h.at.is) is.0)

    -- a room that is not of a route of the list's ranks is aside of it
    out_of_range : (x : Placed V) → IsIn x whole.tree → (IsIn x y.home.part.tree → y.home.part.low ≤ x.entry.rank → x.entry.rank ≤ y.home.at.bit → ⊥)
        → (z : Placed V) → IsIn z (tree_of y.home) → y.home.part.low ≤ z.entry.rank → z.entry.rank ≤ y.home.at.bit → number_of z.room ≡ number_of x.room → ⊥
    out_of_range x in_x out z in_z least most same =
        let e = one_room m whole z x (to_whole z in_z) in_x same in
        search (arith, tree_of)

    aside_of : (l : list_at) (x : Placed V) → IsIn x whole.tree
        → (IsIn x y.home.part.tree → y.home.part.low ≤ x.entry.rank → x.entry.rank ≤ y.home.at.bit → ⊥) → IsAside (number_of x.room) l.masks
    aside_of l x in_x out z among same = search (arith, falls_among, out_of_range)

    not_room : (x : Placed V) → IsIn x whole.tree → (IsIn x y.home.part.tree → y.home.part.low ≤ x.entry.rank → x.entry.rank ≤ y.home.at.bit → ⊥)
        → number_of x.room ≡ number_of room → ⊥
    not_room x in_x out same = search (arith, out_of_range, in_home)

    no_rank : (l : list_at) → masks_in m (number_of room) ≡ None → IsNoRank y.is.entry.rank l.masks
    no_rank l unmarked x among same =
        let is = l.within x among in
        let e = rank_is x is.0 same in
        search (arith, true≢false)

  marks_more : {m : Lodged V} (new : Lodged V) {node : Id} (room : Id) → IsSortedIn m new node room → (x : Placed V) → IsMarked (masks_in m) x
      → IsMarked (masks_in new) x
  marks_more new room s x marked = search (arith, cases_eq)

  -- the list has the route and those of before
  list_more : (m new : Lodged V) (whole : Part m) (room node : Id) (y : Homed m whole room node) → list_at y → masks_in m (number_of room) ≡ None
      → IsSortedIn m new node room
      → IsMaskList (masks_in new) (heads_in new (number_of node)) y.home.part.low y.home.at.bit (MarkedIn (masks_in new) (tree_of y.home))
  list_more m new whole room node y l unmarked s =
      let h = y.home in
      let none = no_rank y l unmarked in
      let free : IsFree m room = record { is = y.is; room_is = y.room_is; ranked = ranked_in m whole y.is y.inside; unmarked = unmarked } in
      let after = s.list l.masks free (are_masks y l) none in
      let within = h.within in
      record {
        masks = sorted_in y.is l.masks;
        begins = after.begins;
        stands = after.stands;
        falls = search (arith, falls_sorted);
        has = λ x is least most. elim (cases_eq (number_of x.room) (number_of room)) [
          | inl same ↦ subst (λ p. IsAmong p (sorted_in y.is l.masks)) (one_room m whole y.is x y.inside (to_whole y x is.0)
              (ap (λ i. (number_of i)) y.room_is ∙ sym same)) (sorted_here y.is l.masks)
          | inr other ↦ search (arith, among_sorted)
        ];
        within = λ x among. elim (sorted_among h.part.low (h.at.bit + 1) y.is l.masks l.falls x among) [
          | inl e ↦ subst (MarkedIn (masks_in new) (tree_of h)) e (in_home y, ap (λ i. is_some (masks_in new (number_of i))) y.room_is ∙ s.marked)
          | inr old ↦ let is = l.within x old in (is.0, marks_more new room s x is.1)
        ];
      }

  pub listed_more : (m new : Lodged V) {root : Node} (late : ℕ → Bool) (w : IsWholeBut m root late nobody_out) (room node : Id) → AreOnce w.part.tree
      → Homed m w.part room node → masks_in m (number_of room) ≡ None → IsSortedIn m new node room
      → KeepsLeaves m new → KeepsBits m new → IsWholeBut new root (λ n. late n && not (n == number_of room)) nobody_out
  listed_more m new late w room node once y unmarked s leaves bits =
      let l = home_list y.home w.lists in
      let number = ap (λ i. (number_of i)) y.room_is in
      whole_kept m new (λ n. late n && not (n == number_of room)) w leaves bits (relisted y.home new once (record {
        heads = s.heads;
        masks = λ x in_x out. s.masks l.masks (are_masks y l) (number_of x.room) (not_room y x in_x out) (aside_of y l x in_x out);
        list = list_more m new w.part room node y l unmarked s;
      }) w.lists) (record {
        listed = λ n p said. elim (cases_eq n (number_of room)) [
          | inl same ↦ (y.is, y.inside, number ∙ sym same, home_has y.home)
          | inr other ↦ let q = some_of (masks_in m n) (sym (s.marks n other) ∙ ap is_some said) in w.listed n q.0 q.1
        ];
        all = λ x in_x home. elim (cases_eq (number_of x.room) (number_of room)) [
          | inl same ↦ inl (ap (λ n. is_some (masks_in new n)) same ∙ s.marked)
          | inr other ↦ search (arith, ne_eqb)
        ];
      })

  -- ---- a mask goes out of the list of its home
  pub record IsTakenOut (m new : Lodged V) (node room : Id) : Type 0 where
    pub list : (ms : List (Placed V)) (x : Placed V) → MasksAt m node ms → IsAmong x ms → x.room ≡ room → MasksAt new node (taken_out x.entry.rank ms)
    pub heads : (n : ℕ) → (n ≡ number_of node → ⊥) → heads_in new n ≡ heads_in m n
    pub masks : KeepsAsideBut m new node room
    pub unmarked : masks_in new (number_of room) ≡ None
    pub marks : KeepsMarksBut m new room

  -- a marked route is listed at its home
  at_home : {m : Lodged V} {whole : Part m} {room node : Id} (y : Homed m whole room node) (l : list_at y) → IsMarked (masks_in m) y.is → IsAmong y.is l.masks
  at_home y l marked = l.has y.is (in_home y, marked) y.home.past y.home.within

  not_marked : {m : Lodged V} (new : Lodged V) {node room : Id} → IsTakenOut m new node room → (x : Placed V) → IsMarked (masks_in new) x
      → number_of x.room ≡ number_of room → ⊥
  not_marked new s x marked same = search (arith, true≢false)

  -- the list has all but the route
  list_less : (m new : Lodged V) (whole : Part m) (room : Id) {node : Id} (y : Homed m whole room node) → list_at y → IsMarked (masks_in m) y.is
      → IsTakenOut m new node room
      → IsMaskList (masks_in new) (heads_in new (number_of node)) y.home.part.low y.home.at.bit (MarkedIn (masks_in new) (tree_of y.home))
  list_less m new whole room y l marked s =
      let h = y.home in
      let after = s.list l.masks y.is (are_masks y l) (at_home y l marked) y.room_is in
      let number = ap (λ i. (number_of i)) y.room_is in
      record {
        masks = taken_out y.is.entry.rank l.masks;
        begins = after.begins;
        stands = after.stands;
        falls = falls_taken h.part.low (h.at.bit + 1) y.is.entry.rank l.masks l.falls;
        has = λ x is least most.
            let other = not_marked new s x is.1 in
            among_taken h.part.low (h.at.bit + 1) y.is.entry.rank l.masks l.falls x (l.has x (is.0, sym (s.marks (number_of x.room) other) ∙ is.1) least most)
            (λ same. other (ap (λ p. (number_of p.room)) (rank_is y x is.0 same) ∙ number));
        within = λ x among.
            let old = taken_among h.part.low (h.at.bit + 1) y.is.entry.rank l.masks l.falls x among in
            let is = l.within x old.0 in
            let other : number_of x.room ≡ number_of room → ⊥ =
            λ same. old.1 (ap (λ p. p.entry.rank) (one_room m whole x y.is (to_whole y x is.0) y.inside (same ∙ sym number))) in
            (is.0, s.marks (number_of x.room) other ∙ is.1);
      }

  module _ {m : Lodged V} {root : Node} {late : ℕ → Bool} (w : IsWholeBut m root late nobody_out) where
    pub listed_less : (new : Lodged V) (room node : Id) → AreOnce w.part.tree → (y : Homed m w.part room node) → IsMarked (masks_in m) y.is
        → IsTakenOut m new node room → KeepsLeaves m new → KeepsBits m new → IsWholeBut new root (λ n. late n || (n == number_of room)) nobody_out
    listed_less new room node once y marked s leaves bits =
        let l = home_list y.home w.lists in
        whole_kept m new (λ n. late n || (n == number_of room)) w leaves bits (relisted y.home new once (record {
          heads = s.heads;
          masks = λ x in_x out. s.masks l.masks (are_masks y l) (number_of x.room) (not_room y x in_x out) (aside_of y l x in_x out);
          list = list_less m new w.part room y l marked s;
        }) w.lists) (record {
          listed = λ n p said. elim (cases_eq n (number_of room)) [
            | inl same ↦ absurd (none_some (sym s.unmarked ∙ ap (masks_in new) (sym same) ∙ said))
            | inr other ↦ let q = some_of (masks_in m n) (sym (s.marks n other) ∙ ap is_some said) in w.listed n q.0 q.1
          ];
          all = λ x in_x home. elim (cases_eq (number_of x.room) (number_of room)) [
            | inl same ↦ search (arith, or_right, eq-eqb)
            | inr other ↦ search arith
          ];
        })

    -- ---- a route with no home
    -- its mask is not listed
    pub homeless : (room : Id) (y : Placed V) → IsIn y w.part.tree → y.room ≡ room → (HasHome y.entry.key y.entry.rank w.part.tree → ⊥)
        → masks_in m (number_of room) ≡ None
    homeless room y in_y is none = unsaid (masks_in m (number_of room)) refl
      where
        unsaid : (o : Option MaskPart) → masks_in m (number_of room) ≡ o → masks_in m (number_of room) ≡ None
        unsaid None e = e
        unsaid (Some p) e =
            let x = w.listed (number_of room) p e in
            let same = one_room m w.part x.0 y x.1 in_y (x.2 ∙ sym (ap (λ i. (number_of i)) is)) in
            absurd (none (subst (λ p. HasHome p.entry.key p.entry.rank w.part.tree) same x.3))

    -- a room whose mask is listed, or has no home, is not late
    pub settled : (room : Id)
        → ((x : Placed V) → IsIn x w.part.tree → HasHome x.entry.key x.entry.rank w.part.tree → number_of x.room ≡ number_of room → IsMarked (masks_in m) x)
        → IsWholeBut m root (λ n. late n && not (n == number_of room)) nobody_out
    settled room here =
        with_late (λ n. late n && not (n == number_of room)) w (λ x in_x home. elim (cases_eq (number_of x.room) (number_of room)) [
          | inl same ↦ inl (here x in_x home same)
          | inr other ↦ search (arith, ne_eqb)
        ])

    pub never_late : (room : Id) (y : Placed V) → IsIn y w.part.tree → y.room ≡ room → (HasHome y.entry.key y.entry.rank w.part.tree → ⊥)
        → IsWholeBut m root (λ n. late n && not (n == number_of room)) nobody_out
    never_late room y in_y is none = settled room (λ x in_x home same. absurd (none (subst (λ p. HasHome p.entry.key p.entry.rank w.part.tree)
        (one_room m w.part x y in_x in_y (same ∙ sym (ap (λ i. (number_of i)) is))) home)))

  -- ---- what a list's change asks for
  pub homed : {m : Lodged V} (whole : Part m) (y : Placed V) {room : Id} {o : Option Id} {node : Id} → IsIn y whole.tree → y.room ≡ room → o ≡ Some node
      → IsHome m y.entry.key y.entry.rank whole o → Homed m whole room node
  homed {m = m} whole y is room_is some home =
      record { is = y; inside = is; room_is = room_is; home = subst (IsHome m y.entry.key y.entry.rank whole) some home }

  pub home_node : {m : Lodged V} {whole : Part m} {room node : Id} → Homed m whole room node → IsBitNode m node
  home_node {m = m} y = used y.home.at

  pub home_masks : {m : Lodged V} {root : Node} {late : ℕ → Bool} (w : IsWholeBut m root late nobody_out) {room node : Id} → Homed m w.part room node
      → (ms : List (Placed V)) × MasksAt m node ms
  home_masks {m = m} w y =
      let l = home_list y.home w.lists in (l.masks, are_masks y l)

  pub home_free : {m : Lodged V} (whole : Part m) {room node : Id} → Homed m whole room node → masks_in m (number_of room) ≡ None → IsFree m room
  home_free {m = m} whole y unmarked = record { is = y.is; room_is = y.room_is; ranked = ranked_in m whole y.is y.inside; unmarked = unmarked }

  pub home_member : {m : Lodged V} {root : Node} {late : ℕ → Bool} (w : IsWholeBut m root late nobody_out) {room node : Id} (y : Homed m w.part room node)
      → IsMarked (masks_in m) y.is → (ms : List (Placed V)) × (x : Placed V) × MasksAt m node ms × IsAmong x ms × (x.room ≡ room)
  home_member {m = m} w y marked =
      let l = home_list y.home w.lists in
      (l.masks, y.is, are_masks y l, at_home y l marked, y.room_is)

  -- where nobody is late a route with a home is marked
  pub marked_at : {m : Lodged V} {root : Node} (w : IsWholeBut m root nobody_late nobody_out) {room node : Id} (y : Homed m w.part room node)
      → IsMarked (masks_in m) y.is
  marked_at {m = m} w y = elim (w.all y.is y.inside (home_has y.home)) [
    | inl marked ↦ marked
    | inr is_late ↦ absurd (true≢false (sym is_late))
  ]
