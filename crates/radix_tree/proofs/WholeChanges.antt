-- A table's rooms as a whole, and once a part of its tree is exchanged for another.
use Rattle.radix_tree.proofs.{TreeMembers.bit_beneath, PlugLists.marked_same, PlugLists.plug_lists, PlugLists.KeepsAbove, Facts.some_of}
use Rattle.radix_tree.proofs.Plugs.{Aside, plug_leaves, plug_forks, plug_in, aside_in, in_plug, aside_at, spare_at, spare_plug, home_plug, plug_home}
use Rattle.radix_tree.proofs.Plugs.{aside_home}
use Rattle.radix_tree.proofs.Words.{◌≡◌, ℕ, ◌+◌, ◌<◌, ◌≤◌, ◌⊎◌, Bool, true, Some, inl, inr, arith, is_some, Node, Placed, Tree, leaf, fork, IsIn, IsTree}
use Rattle.radix_tree.proofs.Words.{MaskPart, Heads, Masks, Part, Lists, leaves_in, bits_in, heads_in, masks_in, one_if, leaves_at, forks_at, HasHome, IsWhole}
use Rattle.radix_tree.proofs.Words.{AreOnce, IsMarked, MarkedLists, IsWholeBut, nobody_out, Lodged, AreListed, number_of, List, [], ◌∷◌, None, sym, ap, ◌∙◌}
use Rattle.radix_tree.proofs.Words.{subst, HaveOneFork, Frame, on_zero, on_one, plug, Lead, Exchanged}

module _ {V : Type 0} where
  -- ---- no route late, and no room on its way out
  -- where all routes with a home are marked, all are listed
  marked_lists : (H : Heads) (K : Masks) (low : ℕ) (t : Tree V) → IsTree low t
      → ((x : Placed V) → IsIn x t → HasHome x.entry.key x.entry.rank t → IsMarked K x) → MarkedLists H K low t → Lists (λ x. Unit {0}) H K low t
  marked_lists H K low (leaf x xs) is all lists = tt
  marked_lists H K low (fork room b zero one) is all lists =
      search (arith, bit_beneath, marked_lists H K (b + 1) zero is.1, marked_lists H K (b + 1) one is.2)

  pub whole_listed : {m : Lodged V} {root : Node} (w : IsWhole m root) → AreListed m w.part
  whole_listed {m = m} w = grind (arith, marked_lists)

  -- the routes that are late may be told anew: each route with a home is marked or among them
  abbrev pub with_late : {m : Lodged V} {root : Node} {late : ℕ → Bool} {out : ℕ → ℕ} (later : ℕ → Bool) (w : IsWholeBut m root late out)
      → ((x : Placed V) → IsIn x w.part.tree → HasHome x.entry.key x.entry.rank w.part.tree → IsMarked (masks_in m) x ⊎ (later (number_of x.room) ≡ true))
      → IsWholeBut m root later out
  with_late later w all = record {
    part = w.part;
    low = w.low;
    top = w.top;
    named = w.named;
    leaves = w.leaves;
    forks = w.forks;
    spare = w.spare;
    lists = w.lists;
    listed = w.listed;
    all = all;
  }

  -- what is late may be thought later
  abbrev pub later_than : {m : Lodged V} {root : Node} {late : ℕ → Bool} (later : ℕ → Bool) → ((n : ℕ) → late n ≡ true → later n ≡ true)
      → IsWholeBut m root late nobody_out → IsWholeBut m root later nobody_out
  later_than later more w = with_late later w
      (λ x in_x home. elim (w.all x in_x home) [ inl marked ↦ inl marked | inr is_late ↦ inr (more (number_of x.room) is_late) ])

  pub once_but : {m : Lodged V} {root : Node} {late : ℕ → Bool} {out : ℕ → ℕ} (w : IsWholeBut m root late out) → AreOnce w.part.tree
  once_but {m = m} {out = out} w = grind arith

  -- what an exchange of a part for another has to keep
  pub record Fits (m new : Lodged V) (whole at : Part m) (under : Part new) (late later : ℕ → Bool) (out outs : ℕ → ℕ) : Type 0 where
    pub leaves : (n : ℕ) → leaves_at n under.tree + outs n + one_if (is_some (leaves_in m n)) ≡ leaves_at n at.tree + out n + one_if (is_some (leaves_in new n))
    pub forks : (n : ℕ) → forks_at n under.tree + one_if (is_some (bits_in m n)) ≡ forks_at n at.tree + one_if (is_some (bits_in new n))
    -- outside of the part, and for masks that are listed above it, the lists stay
    pub heads : (n : ℕ) → forks_at n at.tree ≡ 0 → 1 ≤ forks_at n whole.tree → heads_in new n ≡ heads_in m n
    pub masks : (n : ℕ) → leaves_at n at.tree ≡ 0 → 1 ≤ leaves_at n whole.tree → masks_in new n ≡ masks_in m n
    pub masks_above : (y : Placed V) → IsIn y at.tree → y.entry.rank < at.low → IsMarked (masks_in m) y
        → masks_in new (number_of y.room) ≡ masks_in m (number_of y.room)
    -- no mask is listed that wasn't; a route that goes has none, and one whose mask is listed keeps a home
    pub marks : (n : ℕ) (p : MaskPart) → masks_in new n ≡ Some p → (q : MaskPart) × (masks_in m n ≡ Some q)
    pub kept : (y : Placed V) → IsIn y at.tree → IsMarked (masks_in new) y → IsIn y under.tree
        × (HasHome y.entry.key y.entry.rank at.tree → (y.entry.rank < at.low) ⊎ HasHome y.entry.key y.entry.rank under.tree)
    pub came : (y : Placed V) → IsIn y under.tree → IsMarked (masks_in new) y → IsIn y at.tree
    pub gone : (y : Placed V) → IsIn y at.tree → y.entry.rank < at.low → IsMarked (masks_in m) y → IsMarked (masks_in new) y
    pub lists : MarkedLists (heads_in new) (masks_in new) at.low under.tree
    -- each route with a home has its mask listed, or is late
    pub all : (y : Placed V) → IsIn y under.tree → (y.entry.rank < at.low) ⊎ HasHome y.entry.key y.entry.rank under.tree
        → (later (number_of y.room) ≡ true) ⊎ (IsIn y at.tree × ((y.entry.rank < at.low) ⊎ HasHome y.entry.key y.entry.rank at.tree)
        × (IsMarked (masks_in m) y → IsMarked (masks_in new) y) × (late (number_of y.room) ≡ true → later (number_of y.room) ≡ true))
    pub late_aside : (n : ℕ) → leaves_at n at.tree ≡ 0 → 1 ≤ leaves_at n whole.tree → late n ≡ true → later n ≡ true
    -- where bit nodes in use stay as they were beside the part

  -- -------- a part of a table's tree is exchanged for another, and so the table's rooms as a whole change
  -- ---- an exchange
  module _ {m new : Lodged V} {root name : Node} {late : ℕ → Bool} {out : ℕ → ℕ} {key : ℕ} (w : IsWholeBut m root late out) {at : Part m} {under : Part new}
      (e : Exchanged m new key w.part at under name) where
    -- the room of a route aside is a leaf of the whole and none of the part
    pub aside_out : (y : Placed V) → Aside e.frames y → (leaves_at (number_of y.room) at.tree ≡ 0) × (1 ≤ leaves_at (number_of y.room) w.part.tree)
    aside_out y aside = grind (arith, aside_at e.frames at.tree y aside)

    pub spare_changed : (HaveOneFork (bits_in m) at.tree → HaveOneFork (bits_in new) under.tree)
        → ((n : ℕ) → leaves_at n at.tree ≡ 0 → 1 ≤ leaves_at n w.part.tree → bits_in m n ≡ None → bits_in new n ≡ None)
        → HaveOneFork (bits_in new) e.part.tree
    spare_changed own idle =
        let spare = subst (HaveOneFork (bits_in m)) e.was w.spare in
        subst (HaveOneFork (bits_in new)) (sym e.is_now)
        (spare_plug (bits_in m) (bits_in new) e.frames at.tree under.tree spare (own (spare_at (bits_in m) e.frames at.tree spare))
        (grind (arith, aside_out)))

  -- a route's own bits lead to a part that has it
  pub leads : (low : ℕ) (fs : List (Frame V)) (t : Tree V) (y : Placed V) → IsTree low (plug fs t) → IsIn y t → Lead y.entry.key fs
  leads low [] t y is at = tt
  leads low (on_zero room b one ∷ fs) t y is at = (grind (arith, bit_beneath, plug_in), leads (b + 1) fs t y is.1 at)
  leads low (on_one room b zero ∷ fs) t y is at = (grind (arith, bit_beneath, plug_in), leads (b + 1) fs t y is.2 at)

  module _ {m new : Lodged V} {root name : Node} {late : ℕ → Bool} {out : ℕ → ℕ} {key : ℕ} (w : IsWholeBut m root late out) {at : Part m} {under : Part new}
      (e : Exchanged m new key w.part at under name) where
    old_is : IsTree w.part.low (plug e.frames at.tree)
    old_is = subst (IsTree w.part.low) e.was w.part.is

    new_is : IsTree w.part.low (plug e.frames under.tree)
    new_is = grind arith

    leaves_changed : {later : ℕ → Bool} {outs : ℕ → ℕ} → Fits m new w.part at under late later out outs → (n : ℕ)
        → leaves_at n e.part.tree + outs n ≡ one_if (is_some (leaves_in new n))
    leaves_changed f n = omega (arith, w.leaves n, f.leaves n, ap (leaves_at n) e.was, ap (leaves_at n) e.is_now, plug_leaves e.frames at.tree under.tree n)

    forks_changed : {later : ℕ → Bool} {outs : ℕ → ℕ} → Fits m new w.part at under late later out outs → (n : ℕ)
        → forks_at n e.part.tree ≡ one_if (is_some (bits_in new n))
    forks_changed f n = omega (arith, w.forks n, f.forks n, ap (forks_at n) e.was, ap (forks_at n) e.is_now, plug_forks e.frames at.tree under.tree n)

    -- what was marked before is so where it is now
    was_marked : {later : ℕ → Bool} {outs : ℕ → ℕ} → Fits m new w.part at under late later out outs → (y : Placed V) → IsMarked (masks_in new) y
        → IsMarked (masks_in m) y
    was_marked f y marked =
        let now = some_of (masks_in new (number_of y.room)) marked in
        ap is_some (f.marks (number_of y.room) now.0 now.1).1

    keeps_above : {later : ℕ → Bool} {outs : ℕ → ℕ} → Fits m new w.part at under late later out outs
        → KeepsAbove (heads_in m) (heads_in new) (masks_in m) (masks_in new) at.low e.frames at.tree under.tree
    keeps_above f = record {
      heads = grind arith;
      aside = λ y aside. let o = aside_out w e y aside in f.masks (number_of y.room) o.0 o.1;
      stays = λ y is below marked.
          let same = f.masks_above y is below marked in ((f.kept y is (marked_same (masks_in m) (masks_in new) y same marked)).0, same);
      came = λ y is below marked. (f.came y is marked, was_marked f y marked);
    }

    lists_changed : {later : ℕ → Bool} {outs : ℕ → ℕ} → Fits m new w.part at under late later out outs
        → MarkedLists (heads_in new) (masks_in new) e.part.low e.part.tree
    lists_changed f = subst (λ n. MarkedLists (heads_in new) (masks_in new) n e.part.tree) (sym e.low)
        (subst (MarkedLists (heads_in new) (masks_in new) w.part.low) (sym e.is_now) (plug_lists w.part.low e.frames old_is
        (subst (λ n. KeepsAbove (heads_in m) (heads_in new) (masks_in m) (masks_in new) n e.frames at.tree under.tree) e.lowest
        (keeps_above f)) (grind arith)
        (subst (λ n. MarkedLists (heads_in new) (masks_in new) n under.tree) e.lowest f.lists)))

    -- a route of the other part has a home in the whole where it has one in the part, or its rank is before the part's
    -- bits
    home_in_new : (y : Placed V) → IsIn y under.tree
        → (y.entry.rank < at.low) ⊎ HasHome y.entry.key y.entry.rank under.tree → HasHome y.entry.key y.entry.rank (plug e.frames under.tree)
    home_in_new y is home =
        let new_tree = new_is in
        plug_home w.part.low y.entry.key y.entry.rank e.frames under.tree new_tree (leads w.part.low e.frames under.tree y new_tree is) (omega arith)
        (grind arith)

    home_in_old : (y : Placed V) → IsIn y at.tree → (y.entry.rank < at.low) ⊎ HasHome y.entry.key y.entry.rank at.tree
        → HasHome y.entry.key y.entry.rank w.part.tree
    home_in_old y is home =
        let old_tree = old_is in
        subst (HasHome y.entry.key y.entry.rank) (sym e.was)
        (plug_home w.part.low y.entry.key y.entry.rank e.frames at.tree old_tree (leads w.part.low e.frames at.tree y old_tree is) (omega arith)
        (grind arith))

    in_new : (y : Placed V) → IsIn y (plug e.frames under.tree) → IsIn y e.part.tree
    in_new y is = subst (IsIn y) (sym e.is_now) is

    in_old : (y : Placed V) → IsIn y (plug e.frames at.tree) → IsIn y w.part.tree
    in_old y is = subst (IsIn y) (sym e.was) is

    -- a mask that is listed is that of a route with a home
    listed_now : {later : ℕ → Bool} {outs : ℕ → ℕ} → Fits m new w.part at under late later out outs → (n : ℕ) (p : MaskPart) → masks_in new n ≡ Some p
        → (x : Placed V) → IsIn x w.part.tree → number_of x.room ≡ n → HasHome x.entry.key x.entry.rank w.part.tree
        → IsIn x e.part.tree × HasHome x.entry.key x.entry.rank e.part.tree
    listed_now f n p said x is number home =
        let old_home = subst (HasHome x.entry.key x.entry.rank) e.was home in
        let old_tree = old_is in
        elim (in_plug e.frames at.tree x (subst (IsIn x) e.was is)) [
          | inl aside ↦ search (aside_in, aside_home, e.is_now)
          | inr beneath ↦ let k = f.kept x beneath (ap is_some (ap (masks_in new) number ∙ said)) in
              let place : (x.entry.rank < at.low) ⊎ HasHome x.entry.key x.entry.rank under.tree =
              elim (home_plug w.part.low e.frames at.tree x old_tree beneath old_home) [
                | inl before ↦ inl (subst (λ b. x.entry.rank < b) (sym e.lowest) before)
                | inr h ↦ k.1 h
              ] in (
                in_new x (plug_in e.frames under.tree x k.0),
                subst (HasHome x.entry.key x.entry.rank) (sym e.is_now) (home_in_new x k.0 place),
              )
        ]

    listed_changed : {later : ℕ → Bool} {outs : ℕ → ℕ} → Fits m new w.part at under late later out outs → (n : ℕ) (p : MaskPart) → masks_in new n ≡ Some p
        → (x : Placed V) × IsIn x e.part.tree × (number_of x.room ≡ n) × HasHome x.entry.key x.entry.rank e.part.tree
    listed_changed f n p said =
        let before = f.marks n p said in
        let x = w.listed n before.0 before.1 in
        let now = listed_now f n p said x.0 x.1 x.2 x.3 in
        (x.0, now.0, x.2, now.1)

    -- a route with a home has its mask listed, or is late
    all_aside : {later : ℕ → Bool} {outs : ℕ → ℕ} → Fits m new w.part at under late later out outs → (x : Placed V) → Aside e.frames x
        → HasHome x.entry.key x.entry.rank (plug e.frames under.tree) → IsMarked (masks_in new) x ⊎ (later (number_of x.room) ≡ true)
    all_aside f x aside home = grind (arith, aside_home, aside_in, aside_out w e x aside)

    all_beneath : {later : ℕ → Bool} {outs : ℕ → ℕ} → Fits m new w.part at under late later out outs → (x : Placed V) → IsIn x under.tree
        → HasHome x.entry.key x.entry.rank (plug e.frames under.tree) → IsMarked (masks_in new) x ⊎ (later (number_of x.room) ≡ true)
    all_beneath f x is home =
        let place = subst (λ n. (x.entry.rank < n) ⊎ HasHome x.entry.key x.entry.rank under.tree) (sym e.lowest)
        (home_plug w.part.low e.frames under.tree x new_is is home) in
        elim (f.all x is place) [
          | inl is_later ↦ inr is_later
          | inr old ↦ elim (w.all x (in_old x (plug_in e.frames at.tree x old.0))
              (home_in_old x old.0 old.1)) [
                | inl marked ↦ inl (old.2 marked)
                | inr is_late ↦ inr (old.3 is_late)
              ]
        ]

    all_changed : {later : ℕ → Bool} {outs : ℕ → ℕ} → Fits m new w.part at under late later out outs → (x : Placed V) → IsIn x e.part.tree
        → HasHome x.entry.key x.entry.rank e.part.tree → IsMarked (masks_in new) x ⊎ (later (number_of x.room) ≡ true)
    all_changed f x is home =
        let now = subst (HasHome x.entry.key x.entry.rank) e.is_now home in
        elim (in_plug e.frames under.tree x (subst (IsIn x) e.is_now is)) [
          | inl aside ↦ all_aside f x aside now
          | inr beneath ↦ all_beneath f x beneath now
        ]

    pub whole_changed : {later : ℕ → Bool} {outs : ℕ → ℕ} → Fits m new w.part at under late later out outs → HaveOneFork (bits_in new) e.part.tree
        → IsWholeBut new name later outs
    whole_changed {later = later} {outs = outs} f spare = record {
      part = e.part;
      low = e.low ∙ w.low;
      top = e.above ∙ w.top;
      named = e.named;
      leaves = leaves_changed f;
      forks = forks_changed f;
      spare = spare;
      lists = lists_changed f;
      listed = listed_changed f;
      all = all_changed f;
    }
