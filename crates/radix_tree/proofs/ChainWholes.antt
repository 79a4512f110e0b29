-- The chain of a leaf is exchanged for another one, with a member more or one less, and so the whole.
use Rattle.radix_tree.proofs.{Plugs.one_fork_same, Plugs.counted_member, PartRooms.same_turned, Exchanging.exchanged, WholeRoutes.Spliced}
use Rattle.radix_tree.proofs.{WholeRoutes.routes_changed, WholeRoutes.gains_spliced, WholeRoutes.loses_spliced, Facts.same_none, Facts.test_turned}
use Rattle.radix_tree.proofs.{JoinSides.turn_used, WholeChanges.Fits, WholeChanges.once_but, WholeChanges.spare_changed, WholeChanges.whole_changed}
use Rattle.radix_tree.proofs.ChainLists.{IsCons, cons_at, map_entries, members_more, among_more, among_own, among_less, one_fork_less, one_fork_more}
use Rattle.radix_tree.proofs.ChainLists.{routes_more}
use Rattle.radix_tree.proofs.Words.{◌≡◌, ℕ, ◌+◌, ◌≤◌, ◌==◌, ◌||◌, Bool, false, true≢false, List, [], ◌∷◌, ◌++◌, Option, Some, None, refl, sym, ap, ◌∙◌, subst}
use Rattle.radix_tree.proofs.Words.{arith, eqb-true, eqb-false, eq-eqb, ne_eqb, is_some, Id, Node, LeafOf, Placed, Tree, leaf, IsAmong, IsIn, IsChain, IsTree}
use Rattle.radix_tree.proofs.Words.{Part, leaves_in, bits_in, masks_in, name_of, ChainStands, Way, one_if, members_at, leaves_at, forks_at, HasHome, HasOneFork}
use Rattle.radix_tree.proofs.Words.{shown, name_child, root_after, IsExchange, Exchanged, IsMarked, IsWholeBut, KeepsHeads, KeepsMasks, above_behind, last_room}
use Rattle.radix_tree.proofs.Words.{root_past, Lodged, number_of, ◌⊎◌, inl, inr, Gains, nobody_late, late_at, nobody_out, out_at}

-- ---- the bit node above
pub one_more : (has : ℕ → Bool) (a n : ℕ) → has a ≡ false → one_if ((n == a) || has n) ≡ one_if (a == n) + one_if (has n)
one_more has a n free = search (arith, eqb-true, eq-eqb, ne_eqb, eqb-false)

module _ {V : Type 0} where
  -- to name the part above as before changes nothing
  pub turn_same : (m : Lodged V) (key : ℕ) (whole at : Part m) (ups : List (Part m)) → Way key whole at ups → whole.above ≡ None → (n : ℕ)
      → name_child at.above key (name_of at.tree) n (bits_in m n) ≡ bits_in m n
  turn_same m key whole at [] way top n = search arith
  turn_same m key whole at (p ∷ ps) way top n = search (arith, eqb-true, same_turned)

  pub root_same : {m : Lodged V} (key : ℕ) (whole at : Part m) (ups : List (Part m)) → Way key whole at ups → whole.above ≡ None
      → root_after at.above (name_of at.tree) (name_of whole.tree) ≡ name_of whole.tree
  root_same key whole at [] way top = search arith
  root_same key whole at (p ∷ ps) way top = search arith

  -- a chain begins with the first member before a place, where there is one
  abbrev pub FrontNamed : List (Placed V) → Node → Type 0
  FrontNamed [] name = Unit {0}
  FrontNamed (f ∷ fs) name = name ≡ LeafOf f.room

  pub front_named : {t : Tree V} {z : Placed V} {zs : List (Placed V)} (front back : List (Placed V)) → t ≡ leaf z zs → z ∷ zs ≡ front ++ back
      → FrontNamed front (name_of t)
  front_named front back is same = search arith

  -- the member behind a place is named above where it is the first
  pub place_bits : (m : Lodged V) (key : ℕ) (whole at : Part m) (ups : List (Part m)) (front back : List (Placed V)) (x : Placed V) → Way key whole at ups
      → whole.above ≡ None → FrontNamed front (name_of at.tree) → (n : ℕ) → name_child (above_behind at.above front) key (LeafOf x.room) n (bits_in m n)
      ≡ name_child at.above key (LeafOf (cons_at front back x).first.room) n (bits_in m n)
  place_bits m key whole at ups front back x way top named n = search (arith, turn_same)

  past_root : (r : Id) (front : List (Placed V)) (above : Option Id) (to root : Node) → root_past (last_room (Some r) front) above to root ≡ root
  past_root r [] above to root = refl
  past_root r (f ∷ front) above to root = past_root f.room front above to root

  pub place_root : (m : Lodged V) (key : ℕ) (whole at : Part m) (ups : List (Part m)) (front back : List (Placed V)) (x : Placed V) → Way key whole at ups
      → whole.above ≡ None → FrontNamed front (name_of at.tree)
      → root_past (last_room None front) (above_behind at.above front) (LeafOf x.room) (name_of whole.tree)
      ≡ root_after at.above (LeafOf (cons_at front back x).first.room) (name_of whole.tree)
  place_root m key whole at ups front back x way top named = search (arith, past_root, root_same)

  -- ---- the exchange
  pub record Rechained (m new : Lodged V) (key : ℕ) (whole at : Part m) (old now : List (Placed V)) : Type 0 where
    pub was : IsCons old
    pub cons : IsCons now
    pub is : at.tree ≡ leaf was.first was.rest
    pub key_is : cons.first.entry.key ≡ was.first.entry.key
    pub chain : IsChain cons.first.entry.key 34 now
    pub stands : ChainStands (leaves_in new) at.above None now
    pub leaves : (n : ℕ) → members_at n old ≡ 0 → 1 ≤ leaves_at n whole.tree → leaves_in new n ≡ leaves_in m n
    pub bits : (n : ℕ) → bits_in new n ≡ name_child at.above key (LeafOf cons.first.room) n (bits_in m n)
    pub heads : KeepsHeads m new
    pub masks : KeepsMasks m new

  module _ {m new : Lodged V} {key : ℕ} {whole at : Part m} {old now : List (Placed V)} (r : Rechained m new key whole at old now) where
    abbrev pub under : Part new
    under = record {
      tree = leaf r.cons.first r.cons.rest;
      low = at.low;
      above = at.above;
      is = ((subst (IsTree at.low) r.is at.is).0, subst (IsChain r.cons.first.entry.key 34) r.cons.is r.chain);
      stands = subst (ChainStands (leaves_in new) at.above None) r.cons.is r.stands;
    }

    pub old_counts : (n : ℕ) → leaves_at n at.tree ≡ members_at n old
    old_counts n = ap (leaves_at n) r.is ∙ ap (members_at n) (sym r.was.is)

    pub now_counts : (n : ℕ) → leaves_at n under.tree ≡ members_at n now
    now_counts n = ap (members_at n) (sym r.cons.is)

    pub exchange : IsExchange m new key whole at under
    exchange = search (arith, old_counts)

  -- the whole with the other chain
  abbrev pub with_chain : (m new : Lodged V) {root : Node} {late : ℕ → Bool} {out : ℕ → ℕ} {key : ℕ} (w : IsWholeBut m root late out) (at : Part m)
      (ups : List (Part m)) {old now : List (Placed V)} → Way key w.part at ups
      → (r : Rechained m new key w.part at old now) → Exchanged m new key w.part at (under r)
      (root_after at.above (LeafOf r.cons.first.room) (name_of w.part.tree))
  with_chain m new w at ups way r = exchanged m new w.part at ups way w.top (once_but w) (exchange r)

  pub bits_some : (m : Lodged V) {new : Lodged V} (key : ℕ) {whole : Part m} (at : Part m) {old now : List (Placed V)} → Rechained m new key whole at old now
      → (n : ℕ) → is_some (bits_in new n) ≡ is_some (bits_in m n)
  bits_some m key at r n = search (arith, turn_used)

  module _ {m new : Lodged V} {root : Node} {late : ℕ → Bool} {out : ℕ → ℕ} {key : ℕ} (w : IsWholeBut m root late out) {at : Part m}
      {old now : List (Placed V)} (r : Rechained m new key w.part at old now) where
    pub rechained : {later : ℕ → Bool} {outs : ℕ → ℕ} (ups : List (Part m)) → Way key w.part at ups → Fits m new w.part at (under r) late later out outs
        → (HasOneFork (bits_in m) old → HasOneFork (bits_in m) now)
        → IsWholeBut new (root_after at.above (LeafOf r.cons.first.room) (name_of w.part.tree)) later outs
    rechained ups way f spare =
        let none : (n : ℕ) → bits_in m n ≡ None → bits_in new n ≡ None = search (arith, same_none, bits_some) in
        whole_changed w (with_chain m new w at ups way r) f (spare_changed w (with_chain m new w at ups way r)
        (λ one. subst (HasOneFork (bits_in new)) r.cons.is (search (arith, one_fork_same))) (λ n out_of some gone. none n gone))

    pub spliced : (ups : List (Part m)) → Way key w.part at ups
        → Spliced (shown m (Some root)) (shown new (Some (root_after at.above (LeafOf r.cons.first.room) (name_of w.part.tree)))) (map_entries old)
        (map_entries now)
    spliced ups way =
        let s = routes_changed w (with_chain m new w at ups way r) in
        search (arith, map_entries)

  -- ---- what both have in common
  module _ {m new : Lodged V} {key : ℕ} {whole at : Part m} {old now : List (Placed V)} (r : Rechained m new key whole at old now) where
    pub old_among : (y : Placed V) → IsIn y at.tree → IsAmong y old
    old_among y is = subst (IsAmong y) (sym r.was.is) (subst (IsIn y) r.is is)

    pub among_old : (y : Placed V) → IsAmong y old → IsIn y at.tree
    among_old y is = subst (IsIn y) (sym r.is) (subst (IsAmong y) r.was.is is)

    pub no_home : (k rank : ℕ) → HasHome k rank at.tree → ⊥
    no_home k rank home = subst (HasHome k rank) r.is home

    pub same_marks : (y : Placed V) → IsMarked (masks_in m) y → IsMarked (masks_in new) y
    same_marks y marked = ap is_some (r.masks (number_of y.room)) ∙ marked

  pub not_marked : (m new : Lodged V) (x y : Placed V) → KeepsMasks m new → masks_in m (number_of x.room) ≡ None → x ≡ y → IsMarked (masks_in new) y → ⊥
  not_marked m new x y keeps none same marked = search (arith, true≢false)

  pub same_forks : (m new : Lodged V) (key : ℕ) {whole : Part m} (at : Part m) {old now : List (Placed V)} (r : Rechained m new key whole at old now) (n : ℕ)
      → forks_at n (under r).tree + one_if (is_some (bits_in m n)) ≡ forks_at n at.tree + one_if (is_some (bits_in new n))
  same_forks m new key at r n = search (arith, bits_some)

  -- -------- the chain of a leaf has a member more, or one less, and so the whole
  -- ---- a member more
  fits_in : (m new : Lodged V) (key : ℕ) (whole at : Part m) (front back : List (Placed V)) (x : Placed V)
      (r : Rechained m new key whole at (front ++ back) (front ++ (x ∷ back)))
      → leaves_in m (number_of x.room) ≡ None → masks_in m (number_of x.room) ≡ None → ((n : ℕ)
      → is_some (leaves_in new n) ≡ (n == number_of x.room) || is_some (leaves_in m n))
      → Fits m new whole at (under r) nobody_late (late_at (number_of x.room)) nobody_out nobody_out
  fits_in m new key whole at front back x r free unmarked rooms =
      let split : (y : Placed V) → IsIn y (leaf r.cons.first r.cons.rest) → (x ≡ y) ⊎ IsAmong y (front ++ back) =
      λ y is. among_less front back x y (subst (IsAmong y) (sym r.cons.is) is) in
      record {
        leaves = λ n.
            let o = old_counts r n in
            let t = now_counts r n in
            let more = members_more n front back x in
            let rise = ap one_if (rooms n) ∙ one_more (λ k. is_some (leaves_in m k)) (number_of x.room) n (ap is_some free) in omega arith;
        forks = λ n. same_forks m new key at r n;
        heads = λ n none some. r.heads n;
        masks = λ n none some. r.masks n;
        masks_above = λ y is below marked. r.masks (number_of y.room);
        marks = λ n p e. (p, sym (r.masks n) ∙ e);
        kept = λ y is marked. (
          subst (IsAmong y) r.cons.is (among_more front back x y (old_among r y is)),
          λ home. absurd (no_home r y.entry.key y.entry.rank home),
        );
        came = λ y is marked. elim (split y is) [ inl e ↦ absurd (not_marked m new x y r.masks unmarked e marked) | inr own ↦ among_old r y own ];
        gone = λ y is below marked. same_marks r y marked;
        lists = tt;
        all = λ y is home. elim (split y is) [
          | inl e ↦ search (arith, eq-eqb)
          | inr own ↦ inr (
            among_old r y own,
            elim home [ inl lt ↦ inl lt | inr never ↦ absurd never ],
            λ marked. same_marks r y marked,
            λ late. absurd (true≢false (sym late)),
          )
        ];
        late_aside = λ n none some late. absurd (true≢false (sym late));
      }

  -- ---- a member less
  fits_out : (m new : Lodged V) (key : ℕ) (whole at : Part m) (front back : List (Placed V)) (x : Placed V)
      (r : Rechained m new key whole at (front ++ (x ∷ back)) (front ++ back))
      → ((n : ℕ) → members_at n (front ++ (x ∷ back)) ≤ 1) → masks_in m (number_of x.room) ≡ None
      → ((n : ℕ) → is_some (leaves_in new n) ≡ is_some (leaves_in m n))
      → Fits m new whole at (under r) (late_at (number_of x.room)) nobody_late nobody_out (out_at (number_of x.room))
  fits_out m new key whole at front back x r once unmarked rooms =
      let own_now : (y : Placed V) → IsIn y (leaf r.cons.first r.cons.rest) → IsAmong y (front ++ back) = λ y is. subst (IsAmong y) (sym r.cons.is) is in
      record {
        leaves = search (arith, old_counts, now_counts, members_more, test_turned);
        forks = λ n. same_forks m new key at r n;
        heads = λ n none some. r.heads n;
        masks = λ n none some. r.masks n;
        masks_above = λ y is below marked. r.masks (number_of y.room);
        marks = λ n p e. (p, sym (r.masks n) ∙ e);
        kept = λ y is marked. (
          elim (among_less front back x y (old_among r y is)) [
            | inl e ↦ absurd (not_marked m new x y r.masks unmarked e marked)
            | inr own ↦ subst (IsAmong y) r.cons.is own
          ],
          λ home. absurd (no_home r y.entry.key y.entry.rank home),
        );
        came = search (arith, among_old, among_more);
        gone = λ y is below marked. same_marks r y marked;
        lists = tt;
        all = λ y is home. inr (
          among_old r y (among_more front back x y (own_now y is)),
          elim home [ inl lt ↦ inl lt | inr never ↦ absurd never ],
          λ marked. same_marks r y marked,
          search (arith, eqb-true, counted_member, members_more, eq-eqb),
        );
        late_aside = search (arith, eqb-true, counted_member, among_own, old_counts);
      }

  -- ---- the whole
  module _ {m new : Lodged V} {root : Node} {key : ℕ} (w : IsWholeBut m root nobody_late nobody_out) {at : Part m} (front back : List (Placed V))
      (x : Placed V) (r : Rechained m new key w.part at (front ++ back) (front ++ (x ∷ back))) where
    pub grown_whole : (ups : List (Part m)) → Way key w.part at ups → leaves_in m (number_of x.room) ≡ None → masks_in m (number_of x.room) ≡ None
        → bits_in m (number_of x.room) ≡ None → ((n : ℕ) → is_some (leaves_in new n) ≡ (n == number_of x.room) || is_some (leaves_in m n))
        → IsWholeBut new (root_after at.above (LeafOf r.cons.first.room) (name_of w.part.tree)) (late_at (number_of x.room)) nobody_out
    grown_whole ups way free unmarked idle rooms = rechained w r ups way (search (arith, fits_in)) (λ one. one_fork_more (bits_in m) front back x one idle)

    pub grown_routes : (ups : List (Part m)) → Way key w.part at ups
        → Gains x.entry (shown m (Some root)) (shown new (Some (root_after at.above (LeafOf r.cons.first.room) (name_of w.part.tree))))
    grown_routes ups way = gains_spliced (spliced w r ups way) (routes_more front back x)

  pub shrunk_whole : (m new : Lodged V) {root : Node} (key : ℕ) (front back : List (Placed V)) (x : Placed V)
      (w : IsWholeBut m root (late_at (number_of x.room)) nobody_out) (at : Part m) (ups : List (Part m)) → Way key w.part at ups
      → (r : Rechained m new key w.part at (front ++ (x ∷ back)) (front ++ back))
      → ((n : ℕ) → members_at n (front ++ (x ∷ back)) ≤ 1) → masks_in m (number_of x.room) ≡ None
      → ((n : ℕ) → is_some (leaves_in new n) ≡ is_some (leaves_in m n))
      → IsWholeBut new (root_after at.above (LeafOf r.cons.first.room) (name_of w.part.tree)) nobody_late (out_at (number_of x.room))
  shrunk_whole m new key front back x w at ups way r once unmarked rooms =
      rechained w r ups way (search (arith, fits_out)) (λ one. one_fork_less (bits_in m) front back x one)

  pub shrunk_routes : {m new : Lodged V} {root : Node} {late : ℕ → Bool} {key : ℕ} (front back : List (Placed V)) (x : Placed V)
      (w : IsWholeBut m root late nobody_out) {at : Part m} (ups : List (Part m)) → Way key w.part at ups
      → (r : Rechained m new key w.part at (front ++ (x ∷ back)) (front ++ back))
      → Gains x.entry (shown new (Some (root_after at.above (LeafOf r.cons.first.room) (name_of w.part.tree)))) (shown m (Some root))
  shrunk_routes front back x w ups way r = loses_spliced (spliced w r ups way) (routes_more front back x)
