-- The list of masks of a bit node is cut at a bit, or a leaf has none.
use Rattle.radix_tree.proofs.{HomeLists.one_room, Parts.fork_is, Parts.fork_named, PartRooms.one_if_same, PartRooms.elsewhere, PartRooms.way_once}
use Rattle.radix_tree.proofs.{Plugs.counted_leaf, Plugs.home_plug, Plugs.plug_in, Plugs.on_way, PlugLists.lists_at, PlugLists.lists_stay, Facts.some_of}
use Rattle.radix_tree.proofs.MaskLists.{not_below_among, among_not_below, below_among, among_below, falls_not_below, falls_below, masks_listed, falls_among}
use Rattle.radix_tree.proofs.Words.{◌≡◌, ℕ, ◌+◌, ◌<◌, ◌≤◌, ◌==◌, Bool, List, Option, None, sym, ap, ◌∙◌, subst, inl, inr, arith, is_some, Id, Node, LeafOf}
use Rattle.radix_tree.proofs.Words.{BitOf, Placed, Tree, leaf, fork, IsAmong, IsIn, IsTree, Part, heads_in, masks_in, name_of, ForkAt, Way, one_if, leaves_at}
use Rattle.radix_tree.proofs.Words.{forks_at, HasHome, AreOnce, IsMarked, IsMaskList, MarkedIn, MarkedLists, IsWholeBut, IsMasks, MasksAt, KeepsAside, past_bit}
use Rattle.radix_tree.proofs.Words.{up_to_bit, KeepsLeaves, KeepsBits, Lodged, number_of}

module _ {V : Type 0} where
  -- the masks of a part, once those of its bit node that are past a bit are listed there, and the others are a list of
  -- their own
  pub record IsCut (m new : Lodged V) (low bit : ℕ) (t : Tree V) (first : Option Id) : Type 0 where
    pub leaves : KeepsLeaves m new
    pub bits : KeepsBits m new
    pub heads : (n : ℕ) → forks_at n t ≡ 0 → heads_in new n ≡ heads_in m n
    pub masks : (n : ℕ) → leaves_at n t ≡ 0 → masks_in new n ≡ masks_in m n
    pub masks_above : (y : Placed V) → IsIn y t → y.entry.rank < low → masks_in new (number_of y.room) ≡ masks_in m (number_of y.room)
    pub marks : (n : ℕ) → is_some (masks_in new n) ≡ is_some (masks_in m n)
    pub list : IsMaskList (masks_in new) first low bit (MarkedIn (masks_in new) t)
    pub lists : MarkedLists (heads_in new) (masks_in new) (bit + 1) t

  -- ---- a leaf
  -- its marked routes are listed further up
  pub unmarked_leaf : (m : Lodged V) {root : Node} {late : ℕ → Bool} {out : ℕ → ℕ} (w : IsWholeBut m root late out) (key : ℕ) (at : Part m)
      (ups : List (Part m)) (y : Placed V) (ys : List (Placed V)) → Way key w.part at ups → at.tree ≡ leaf y ys
      → (x : Placed V) → IsIn x at.tree → IsMarked (masks_in m) x → at.low ≤ x.entry.rank → ⊥
  unmarked_leaf m w key at ups y ys way is x there marked least =
      let p = some_of (masks_in m (number_of x.room)) marked in
      let z = w.listed (number_of x.room) p.0 p.1 in
      let o = on_way m key w.part at ups way in
      let same = one_room m w.part z.0 x z.1 (search (plug_in, o.was)) z.2 in
      let home = subst (λ p. HasHome p.entry.key p.entry.rank w.part.tree) same z.3 in
      elim (home_plug w.part.low o.frames at.tree x (subst (IsTree w.part.low) o.was w.part.is) there (subst (HasHome x.entry.key x.entry.rank) o.was home)) [
        | inl above ↦ absurd (omega arith)
        | inr here ↦ subst (HasHome x.entry.key x.entry.rank) is here
      ]

  pub cut_leaf : (m : Lodged V) (low bit : ℕ) {t : Tree V} (y : Placed V) (ys : List (Placed V)) → t ≡ leaf y ys
      → ((x : Placed V) → IsIn x t → IsMarked (masks_in m) x → low ≤ x.entry.rank → ⊥) → IsCut m m low bit t None
  cut_leaf m low bit y ys is none = grind arith

  -- ---- a bit node
  pub cut_fork : (m new : Lodged V) (p : Part m) (room : Id) (f : ForkAt p room) (bit : ℕ) (first : Option Id) → AreOnce p.tree → p.low ≤ bit
      → IsTree (bit + 1) p.tree → MarkedLists (heads_in m) (masks_in m) p.low p.tree
      → ((ms : List (Placed V)) → MasksAt m room ms → MasksAt new room (past_bit bit ms))
      → ((ms : List (Placed V)) → MasksAt m room ms → IsMasks new first (up_to_bit bit ms))
      → ((n : ℕ) → (n ≡ number_of room → ⊥) → heads_in new n ≡ heads_in m n) → KeepsAside m new room
      → ((n : ℕ) → is_some (masks_in new n) ≡ is_some (masks_in m n)) → KeepsLeaves m new → KeepsBits m new → IsCut m new p.low bit p.tree first
  cut_fork m new p room f bit first once rises is lists kept others heads masks marks leaves bits =
      let fork_lists = subst (MarkedLists (heads_in m) (masks_in m) p.low) f.is lists in
      let l = subst (λ t. IsMaskList (masks_in m) (heads_in m (number_of room)) p.low f.bit (MarkedIn (masks_in m) t)) (sym f.is) fork_lists.0 in
      let tree = fork_is f in
      let past = (subst (IsTree (bit + 1)) f.is is).0.rises in
      let ms = masks_listed p l tree.0.within (λ x member. member.0) in
      let long = kept l.masks ms in
      let short = others l.masks ms in
      let own = one_if_same (number_of room) in
      let all_forks : (n : ℕ) → forks_at n p.tree ≡ one_if (number_of room == n) + (forks_at n f.zero + forks_at n f.one) = λ n. ap (forks_at n) f.is in
      let outside : (y : Placed V) → IsIn y p.tree → ((z : Placed V) → IsAmong z l.masks → y.entry.rank ≡ z.entry.rank → ⊥)
      → masks_in new (number_of y.room) ≡ masks_in m (number_of y.room) =
      λ y at other. masks l.masks ms (number_of y.room) (λ z among same.
      other z among (ap (λ p. p.entry.rank) (one_room m p y z at (l.within z among).0 (sym same)))) in
      let zeros : (y : Placed V) → IsIn y f.zero → f.bit + 1 ≤ y.entry.rank → masks_in new (number_of y.room) ≡ masks_in m (number_of y.room) =
      λ y at least. outside y (subst (IsIn y) (sym f.is) (inl at))
      (λ z among same. omega (arith, (falls_among p.low (f.bit + 1) l.masks l.falls z among).1)) in
      let ones : (y : Placed V) → IsIn y f.one → f.bit + 1 ≤ y.entry.rank → masks_in new (number_of y.room) ≡ masks_in m (number_of y.room) =
      λ y at least. outside y (subst (IsIn y) (sym f.is) (inr at))
      (λ z among same. let most = (falls_among p.low (f.bit + 1) l.masks l.falls z among).1 in omega arith) in
      record {
        leaves = leaves;
        bits = bits;
        heads = λ n out. heads n (λ same. let sum = all_forks n in
            let here = ap (λ k. one_if (number_of room == k)) same ∙ own in absurd (omega arith));
        masks = λ n out. masks l.masks ms n (λ z among same. let some = counted_leaf z p.tree (l.within z among).0 in
            let e = ap (λ k. leaves_at k p.tree) same in omega arith);
        masks_above = λ y at above. outside y at (λ z among same. let least = (falls_among p.low (f.bit + 1) l.masks l.falls z among).0 in
            omega arith);
        marks = marks;
        list = record {
          masks = up_to_bit bit l.masks;
          begins = short.begins;
          stands = short.stands;
          falls = falls_below p.low (f.bit + 1) (bit + 1) l.masks l.falls;
          has = λ x member least most. among_below (bit + 1) l.masks x (l.has x (member.0, sym (marks (number_of x.room)) ∙ member.1) least (omega arith))
              (omega arith);
          within = λ x among. let was = l.within x (below_among p.low (f.bit + 1) (bit + 1) l.masks l.falls x among).0 in
              (was.0, marks (number_of x.room) ∙ was.1);
        };
        lists = subst (MarkedLists (heads_in new) (masks_in new) (bit + 1)) (sym f.is) (
          record {
            masks = past_bit bit l.masks;
            begins = long.begins;
            stands = long.stands;
            falls = falls_not_below p.low (f.bit + 1) (bit + 1) l.masks l.falls;
            has = λ x member least most. among_not_below p.low (f.bit + 1) (bit + 1) l.masks l.falls x
                (l.has x (subst (IsIn x) (sym f.is) member.0, sym (marks (number_of x.room)) ∙ member.1) (omega arith) most) least;
            within = λ x among. let was = l.within x (not_below_among (bit + 1) l.masks x among).0 in
                (subst (IsIn x) f.is was.0, marks (number_of x.room) ∙ was.1);
          },
          lists_stay (heads_in m) (heads_in new) (masks_in m) (masks_in new) (f.bit + 1) f.zero tree.1
              (λ n some. heads n (elsewhere room n (forks_at n f.zero) some (let sum = all_forks n in omega arith)))
              zeros fork_lists.1,
          lists_stay (heads_in m) (heads_in new) (masks_in m) (masks_in new) (f.bit + 1) f.one tree.2
              (λ n some. heads n (elsewhere room n (forks_at n f.one) some (let sum = all_forks n in omega arith)))
              ones fork_lists.2,
        );
      }

  module _ {m : Lodged V} {root : Node} {late : ℕ → Bool} {out : ℕ → ℕ} (w : IsWholeBut m root late out) where
    -- the lists of a part of the whole
    pub part_lists : (key : ℕ) (at : Part m) (ups : List (Part m)) → Way key w.part at ups → MarkedLists (heads_in m) (masks_in m) at.low at.tree
    part_lists key at ups way = grind (arith, on_way, lists_at)

    -- ---- either of them
    pub cut_at : (new : Lodged V) (key bit : ℕ) (p : Part m) (ups : List (Part m)) (below : Node) (first : Option Id) (t : Tree V) → p.tree ≡ t
        → Way key w.part p ups → AreOnce w.part.tree → p.low ≤ bit → IsTree (bit + 1) p.tree → name_of p.tree ≡ below
        → ((fork : Id) (ms : List (Placed V)) → below ≡ BitOf fork → MasksAt m fork ms → MasksAt new fork (past_bit bit ms))
        → ((fork : Id) (ms : List (Placed V)) → below ≡ BitOf fork → MasksAt m fork ms → IsMasks new first (up_to_bit bit ms))
        → ((room : Id) → below ≡ LeafOf room → (first ≡ None) × (new ≡ m))
        → ((n : ℕ) → ((fork : Id) → below ≡ BitOf fork → n ≡ number_of fork → ⊥) → heads_in new n ≡ heads_in m n)
        → ((fork : Id) → below ≡ BitOf fork → KeepsAside m new fork)
        → ((n : ℕ) → is_some (masks_in new n) ≡ is_some (masks_in m n)) → KeepsLeaves m new → KeepsBits m new → IsCut m new p.low bit p.tree first
    cut_at new key bit p ups below first (leaf y ys) is way once rises tree named kept others same heads masks marks leaves bits =
        let s = same y.room (sym named ∙ ap name_of is) in
        subst (IsCut m new p.low bit p.tree) (sym s.0)
        (subst (λ n. IsCut m n p.low bit p.tree None) (sym s.1) (cut_leaf m p.low bit y ys is (unmarked_leaf m w key p ups y ys way is)))
    cut_at new key bit p ups below first (fork room b zero one) is way once rises tree named kept others same heads masks marks leaves bits =
        let f : ForkAt p room = record { bit = b; zero = zero; one = one; is = is } in
        let here = sym named ∙ ap name_of is in
        cut_fork m new p room f bit first (way_once key w.part p ups way once) rises tree (part_lists key p ups way)
        (λ ms. kept room ms here) (λ ms. others room ms here) (grind arith) (masks room here) marks leaves bits

    -- the list of the part's bit node
    pub list_at : (key : ℕ) (p : Part m) (ups : List (Part m)) {room : Id} → Way key w.part p ups → name_of p.tree ≡ BitOf room
        → (ms : List (Placed V)) × MasksAt m room ms
    list_at key p ups way named =
        let f = fork_named p named in
        let l = (subst (MarkedLists (heads_in m) (masks_in m) p.low) f.is (part_lists key p ups way)).0 in
        (l.masks, masks_listed p l (fork_is f).0.within (λ x member. subst (IsIn x) (sym f.is) member.0))
