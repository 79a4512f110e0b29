-- The list of masks of a bit node that goes is handed on to the node that takes its place.
use Rattle.radix_tree.proofs.{Parts.fork_named, Parts.leaf_named, PlugLists.lists_stay, HomeLists.one_room, PartRooms.one_if_same, PartRooms.way_once}
use Rattle.radix_tree.proofs.{Facts.some_of}
use Rattle.radix_tree.proofs.JoinSides.{other_part, side_is, side_stands, side_forks, side_in, in_side, side_list, side_lists, side_home}
use Rattle.radix_tree.proofs.MaskLists.{falls_wider, falls_among, falls_appended, among_appended, in_front, in_back, masks_listed}
use Rattle.radix_tree.proofs.Words.{none_some, ◌≡◌, ◌+◌, ◌≤◌, ◌⊎◌, ◌==◌, List, [], ◌∷◌, ◌++◌, Option, None, inl, inr, refl, sym, ap, ◌∙◌, subst, arith, ℕ}
use Rattle.radix_tree.proofs.Words.{cases_lt, cases_eq, is_some, Id, LeafOf, BitOf, Placed, Tree, leaf, fork, IsAmong, IsIn, Masks, Part, heads_in, masks_in}
use Rattle.radix_tree.proofs.Words.{name_of, Falls, one_if, forks_at, AreOnce, HasSides, IsLone, IsHanded, IsMarked, IsMaskList, MarkedIn, MarkedLists, IsMasks}
use Rattle.radix_tree.proofs.Words.{MasksAt, KeepsAside, IsBitNode, IsAside, Lodged, true≢false, number_of}

unmarked_marked : {A : Type 0} (K : Masks) (x y : Placed A) → K (number_of x.room) ≡ None → x ≡ y → IsMarked K y → ⊥
unmarked_marked {A = A} K x y none same marked = search (arith, true≢false)

module _ {V : Type 0} where
  -- one of the members is in a room, or none
  member_or_aside : (n : ℕ) (ms : List (Placed V)) → ((y : Placed V) × IsAmong y ms × (number_of y.room ≡ n)) ⊎ IsAside n ms
  member_or_aside n [] = inr (λ y among same. among)
  member_or_aside n (x ∷ ms) =
      elim (cases_eq (number_of x.room) n) [
        | inl here ↦ inl (x, inl refl, here)
        | inr other ↦ elim (member_or_aside n ms) [
          | inl found ↦ inl (found.0, inr found.1, found.2)
          | inr aside ↦ search arith
        ]
      ]

  -- ---- to a bit node
  -- its list, and that of the bit node that goes
  pub record AreTwo (m : Lodged V) (over : Part m) (up room : Id) (b c : ℕ) (t : Tree V) : Type 0 where
    pub own : IsMaskList (masks_in m) (heads_in m (number_of room)) (b + 1) c (MarkedIn (masks_in m) t)
    pub gone : IsMaskList (masks_in m) (heads_in m (number_of up)) over.low b (MarkedIn (masks_in m) over.tree)
    pub own_is : MasksAt m room own.masks
    pub gone_is : MasksAt m up gone.masks
    pub low : over.low ≤ b
    pub rises : b + 1 ≤ c
    pub within : c ≤ 31
    pub falls : Falls over.low (c + 1) (own.masks ++ gone.masks)

  two : (m : Lodged V) (over : Part m) {key : ℕ} {up : Id} (room : Id) (b c : ℕ) {own : Tree V} (zero one : Tree V)
      → HasSides key over.tree up b own (fork room c zero one) → MarkedLists (heads_in m) (masks_in m) over.low over.tree
      → AreTwo m over up room b c (fork room c zero one)
  two m over room b c {own = own} zero one s lists =
      let is = side_is s over.low over.is in
      let low = is.1 in
      let within_b = is.2 in
      let rises = is.0.0.rises in
      let within = is.0.0.within in
      let theirs = (side_lists s (heads_in m) (masks_in m) over.low lists).0 in
      let mine = side_list s (heads_in m) (masks_in m) over.low lists in
      record {
        own = theirs;
        gone = mine;
        own_is = masks_listed over theirs within (λ y member. in_side s y member.0);
        gone_is = masks_listed over mine within_b (λ y member. member.0);
        low = low;
        rises = rises;
        within = within;
        falls = search (arith, falls_appended);
      }

  abbrev pub Ready : (m : Lodged V) (room : Id) (first : Option Id) → Type 0
  Ready m room first = (ms : List (Placed V)) × (ts : List (Placed V)) × MasksAt m room ms × IsMasks m first ts × Falls 0 34 (ms ++ ts)

  pub append_ready : {m : Lodged V} {whole : Part m} {at : Id} (up room : Id) {first : Option Id} (l : IsLone m whole at up) → name_of l.other ≡ BitOf room
      → heads_in m (number_of up) ≡ first → MarkedLists (heads_in m) (masks_in m) l.over.low l.over.tree → Ready m room first
  append_ready {m = m} up room l named head lists =
      let f = fork_named (other_part l) named in
      let s = subst (HasSides l.route.entry.key l.over.tree up l.bit (leaf l.route [])) f.is l.sides in
      let w = two m l.over room l.bit f.bit f.zero f.one s lists in
      search (arith, falls_wider)

  -- the sibling as a bit node in use
  pub sibling_node : {m : Lodged V} {whole : Part m} {at : Id} (up room : Id) (l : IsLone m whole at up) → name_of l.other ≡ BitOf room → IsBitNode m room
  sibling_node {m = m} up room l named =
      let f = fork_named (other_part l) named in
      search (arith, side_stands)

  -- what append leaves
  pub record IsAppended (m new : Lodged V) (room : Id) (first : Option Id) : Type 0 where
    pub list : (ms : List (Placed V)) (ts : List (Placed V)) → MasksAt m room ms → IsMasks m first ts
        → Falls 0 34 (ms ++ ts) → MasksAt new room (ms ++ ts)
    pub heads : (n : ℕ) → (n ≡ number_of room → ⊥) → heads_in new n ≡ heads_in m n
    pub masks : KeepsAside m new room
    pub marks : (n : ℕ) → is_some (masks_in new n) ≡ is_some (masks_in m n)

  -- a mask of another rank than the members' stays
  rank_stays : (m : Lodged V) {new : Lodged V} (over : Part m) {up room : Id} (b c : ℕ) {first : Option Id} {t : Tree V} (w : AreTwo m over up room b c t)
      → IsAppended m new room first → ((y : Placed V) → IsIn y t → IsIn y over.tree) → (y : Placed V) → IsIn y over.tree → c + 1 ≤ y.entry.rank
      → masks_in new (number_of y.room) ≡ masks_in m (number_of y.room)
  rank_stays m over b c w a inside_over y at past =
      a.masks w.own.masks w.own_is (number_of y.room) (λ z among same.
      let rank = ap (λ p. p.entry.rank) (one_room m over z y (inside_over z (w.own.within z among).0) at same) in
      search (arith, falls_among))

  fork_handed : (m new : Lodged V) (over : Part m) {key : ℕ} (up room : Id) (b c : ℕ) (x : Placed V) (zero one : Tree V) {first : Option Id}
      → HasSides key over.tree up b (leaf x []) (fork room c zero one) → heads_in m (number_of up) ≡ first → masks_in m (number_of x.room) ≡ None
      → MarkedLists (heads_in m) (masks_in m) over.low over.tree → AreOnce over.tree
      → IsAppended m new room first → IsHanded m new over.low over.tree (fork room c zero one)
  fork_handed m new over up room b c x zero one s head unmarked lists once a =
      let w = two m over room b c zero one s lists in
      let is = side_is s over.low over.is in
      let old = side_lists s (heads_in m) (masks_in m) over.low lists in
      let within = w.within in
      let beneath : (y : Placed V) → IsIn y (fork room c zero one) → IsIn y over.tree = λ y at. in_side s y at in
      let own = one_if_same (number_of room) in
      let now = a.list w.own.masks w.gone.masks w.own_is (subst (λ o. IsMasks m o w.gone.masks) head w.gone_is)
      (falls_wider over.low (c + 1) 0 34 (w.own.masks ++ w.gone.masks) w.falls (omega arith) (omega arith)) in
      let marked_now : (y : Placed V) → IsMarked (masks_in m) y → IsMarked (masks_in new) y = λ y marked. a.marks (number_of y.room) ∙ marked in
      let most_forks : (n : ℕ) → one_if (number_of up == n) + (0 + (one_if (number_of room == n) + (forks_at n zero + forks_at n one))) ≤ 1 = λ n.
      let sum = side_forks s n in
      omega arith in
      record {
        heads = λ n none. search (arith, side_forks, one_if_same);
        masks = search (arith, falls_among);
        marks = λ n p said. some_of (masks_in m n) (sym (a.marks n) ∙ ap is_some said);
        kept = search (arith, side_home);
        all = λ y at home marked. marked_now y marked;
        lists = (
          record {
            masks = w.own.masks ++ w.gone.masks;
            begins = now.begins;
            stands = now.stands;
            falls = w.falls;
            has = search (arith, cases_lt, in_back, in_front);
            within = λ y among. elim (among_appended w.own.masks w.gone.masks y among) [
              | inl own_one ↦ let member = w.own.within y own_one in (member.0, marked_now y member.1)
              | inr gone_one ↦ search (arith, side_in, unmarked_marked)
            ];
          },
          lists_stay (heads_in m) (heads_in new) (masks_in m) (masks_in new) (c + 1) zero is.0.1 (λ n some. search (arith, one_if_same))
              (λ y at past. rank_stays m over b c w a beneath y (beneath y (inl at)) past) old.1,
          lists_stay (heads_in m) (heads_in new) (masks_in m) (masks_in new) (c + 1) one is.0.2 (λ n some. search (arith, one_if_same))
              (λ y at past. rank_stays m over b c w a beneath y (beneath y (inr at)) past) old.2,
        );
      }

  pub bit_handed : (m new : Lodged V) (whole : Part m) {at : Id} (up room : Id) {first : Option Id} (l : IsLone m whole at up) → name_of l.other ≡ BitOf room
      → heads_in m (number_of up) ≡ first → masks_in m (number_of at) ≡ None → MarkedLists (heads_in m) (masks_in m) l.over.low l.over.tree
      → IsAppended m new room first → IsHanded m new l.over.low l.over.tree l.other
  bit_handed m new whole up room l named head unmarked lists a =
      let f = fork_named (other_part l) named in
      let s = subst (HasSides l.route.entry.key l.over.tree up l.bit (leaf l.route [])) f.is l.sides in
      let once = way_once l.route.entry.key whole l.over l.ups l.way l.once in
      subst (IsHanded m new l.over.low l.over.tree) (sym f.is)
      (fork_handed m new l.over up room l.bit f.bit l.route f.zero f.one s head (ap (λ i. masks_in m (number_of i)) l.room_is ∙ unmarked) lists once a)

  -- ---- to a leaf
  pub clear_ready : {m : Lodged V} {whole : Part m} {at up : Id} {first : Option Id} (l : IsLone m whole at up) → heads_in m (number_of up) ≡ first
      → MarkedLists (heads_in m) (masks_in m) l.over.low l.over.tree → (ms : List (Placed V)) × IsMasks m first ms
  clear_ready {m = m} l head lists =
      let is = side_is l.sides l.over.low l.over.is in
      let mine = side_list l.sides (heads_in m) (masks_in m) l.over.low lists in (
        mine.masks,
        subst (λ o. IsMasks m o mine.masks) head (masks_listed l.over mine is.2 (λ y member. member.0)),
      )

  -- what clear leaves
  pub record IsCleared (m new : Lodged V) (first : Option Id) : Type 0 where
    pub cleared : (ms : List (Placed V)) (y : Placed V) → IsMasks m first ms → IsAmong y ms → masks_in new (number_of y.room) ≡ None
    pub masks : (ms : List (Placed V)) → IsMasks m first ms → (n : ℕ) → IsAside n ms → masks_in new n ≡ masks_in m n
    pub heads : (n : ℕ) → heads_in new n ≡ heads_in m n

  leaf_handed : (m new : Lodged V) (over : Part m) {key : ℕ} {up : Id} (b : ℕ) {x y0 : Placed V} {ys : List (Placed V)} {first : Option Id}
      → HasSides key over.tree up b (leaf x []) (leaf y0 ys) → heads_in m (number_of up) ≡ first → MarkedLists (heads_in m) (masks_in m) over.low over.tree
      → IsCleared m new first → IsHanded m new over.low over.tree (leaf y0 ys)
  leaf_handed m new over b s head lists a =
      let is = side_is s over.low over.is in
      let within = is.2 in
      let mine = side_list s (heads_in m) (masks_in m) over.low lists in
      let ready = subst (λ o. IsMasks m o mine.masks) head (masks_listed over mine within (λ y member. member.0)) in
      search (arith, member_or_aside, none_some, falls_among, side_home, cases_lt, some_of, in_side)

  pub leaf_side_handed : (m new : Lodged V) {whole : Part m} {at : Id} (up : Id) {room : Id} (first : Option Id) (l : IsLone m whole at up)
      → name_of l.other ≡ LeafOf room → heads_in m (number_of up) ≡ first → MarkedLists (heads_in m) (masks_in m) l.over.low l.over.tree → IsCleared m new first
      → IsHanded m new l.over.low l.over.tree l.other
  leaf_side_handed m new up first l named head lists a =
      let f = leaf_named (other_part l) named in
      let s = subst (HasSides l.route.entry.key l.over.tree up l.bit (leaf l.route [])) f.is l.sides in
      subst (IsHanded m new l.over.low l.over.tree) (sym f.is) (leaf_handed m new l.over l.bit s head lists a)
