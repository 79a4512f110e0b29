-- The routes that a table's rooms show, and a table with an entry and without.
use Rattle.radix_tree.proofs.{ListLemmas.all_weaker, ListLemmas.filter_all, ListLemmas.filter_none, OrderLemmas.precedes_one_way, TableLemmas.with_later}
use Rattle.radix_tree.proofs.{TableLemmas.without_absent, TableLemmas.none_at, Plugs.surround, Scans.chain_most}
use Rattle.radix_tree.proofs.Words.{◌≡◌, ℕ, Bool, false, IsTrue, List, [], ◌∷◌, ◌++◌, Some, None, arith, append_assoc, AllByRecursion, Node, precedes, IsTable}
use Rattle.radix_tree.proofs.Words.{has_pair, entry_at, with_entry, without, routes_of, Part, shown, Gains, Exchanged, IsWholeBut, Entry, Lodged, zero, suc}
use Rattle.radix_tree.proofs.Words.{◌+◌, ◌≤◌, length, map, Option, refl, Id, Placed, Tree, leaf, fork, IsTree, Leaves, Bits, first_room, name_of, ChainStands}
use Rattle.radix_tree.proofs.Words.{Stands, IsWhole}
use Rattle.radix_tree.specs.Whole.{chain_shown, beneath_shown}

module _ {V : Type 0} where
  -- ---- the rooms show the routes of the tree that they stand for
  pub chain_is : (n : ℕ) (L : Leaves V) (above previous : Option Id) (c : List (Placed V)) → length c ≤ n → ChainStands L above previous c
      → chain_shown n L (first_room c) ≡ map (λ (p : Placed V). p.entry) c
  unfolding chain_shown
  chain_is zero L above previous [] fits stands = refl
  chain_is (suc n) L above previous [] fits stands = refl
  chain_is zero L above previous (x ∷ c) fits stands = absurd (omega arith)
  chain_is (suc n) L above previous (x ∷ c) fits stands = grind (arith, chain_is n L None (Some x.room) c (omega arith) stands.1)

  -- 33 levels are enough
  pub beneath_is : (n low : ℕ) (L : Leaves V) (B : Bits) (above : Option Id) (t : Tree V) → IsTree low t → Stands L B above t → 33 ≤ low + n
      → beneath_shown n L B (name_of t) ≡ routes_of t
  unfolding beneath_shown
  beneath_is zero low L B above (leaf x xs) is stands enough = absurd (omega arith)
  beneath_is (suc n) low L B above (leaf x xs) is stands enough = chain_is 34 L above None (x ∷ xs) (chain_most x.entry.key 34 (x ∷ xs) is.1) stands
  beneath_is zero low L B above (fork room b left right) is stands enough = absurd (omega arith)
  beneath_is (suc n) low L B above (fork room b left right) is stands enough =
      search (beneath_is n (b + 1) L B (Some room) left is.1 stands.1 (omega arith), beneath_is n (b + 1) L B (Some room) right is.2 stands.2 (omega arith))

  pub part_shown : {m : Lodged V} {root : Node} (p : Part m) → p.low ≡ 0 → name_of p.tree ≡ root → shown m (Some root) ≡ routes_of p.tree
  part_shown {m = m} p low named = grind (arith, beneath_is)

  pub shown_is : {m : Lodged V} {root : Node} (w : IsWhole m root) → shown m (Some root) ≡ routes_of w.part.tree
  shown_is w = part_shown w.part w.low w.named

  -- ---- the routes that the rooms show
  -- before and behind those of the part they stay
  pub record Spliced (old new before now : List (Entry V)) : Type 0 where
    pub front : List (Entry V)
    pub back : List (Entry V)
    pub was : old ≡ front ++ before ++ back
    pub is_now : new ≡ front ++ now ++ back

  pub routes_changed : {m new : Lodged V} {root name : Node} {late : ℕ → Bool} {out : ℕ → ℕ} {key : ℕ} (w : IsWholeBut m root late out) {at : Part m}
      {under : Part new} (e : Exchanged m new key w.part at under name)
      → Spliced (shown m (Some root)) (shown new (Some name)) (routes_of at.tree) (routes_of under.tree)
  routes_changed w {at = at} {under = under} e = grind (arith, part_shown, surround e.frames)

  regrouped : (before front back behind : List (Entry V)) → before ++ (front ++ back) ++ behind ≡ (before ++ front) ++ (back ++ behind)
  regrouped before front back behind = search (append_assoc)

  pub gains_spliced : {e : Entry V} {old new before now : List (Entry V)} → Spliced old new before now → Gains e before now → Gains e old new
  gains_spliced {e = e} {now = now} s g = grind (arith, regrouped)

  pub loses_spliced : {e : Entry V} {old new before now : List (Entry V)} → Spliced old new before now → Gains e now before → Gains e new old
  loses_spliced {old = old} {new = new} s g = search (gains_spliced)

  -- ---- a table with an entry, and without
  -- what holds of all elements holds of one among them
  pub all_at : (P : Entry V → Type 0) (front back : List (Entry V)) (e : Entry V) → AllByRecursion P (front ++ e ∷ back) → P e
  all_at P [] back e all = all.0
  all_at P (x ∷ front) back e all = all_at P front back e all.1

  ahead_not_pair : (x e : Entry V) → IsTrue (precedes x e) → has_pair e.key e.rank x ≡ false
  ahead_not_pair x e ahead = grind arith

  gained : (e : Entry V) (front back : List (Entry V)) → IsTable (front ++ e ∷ back)
      → (front ++ e ∷ back ≡ with_entry e (front ++ back)) × (entry_at e.key e.rank (front ++ back) ≡ None)
  gained e [] back is = search (filter_none, all_weaker, precedes_one_way, filter_all, none_at, is.1)
  gained e (x ∷ front) back is =
      let ahead = all_at (λ f. IsTrue (precedes x f)) front back e is.1 in
      search (with_later, ahead_not_pair, gained e front back is.2)

  lost : (e : Entry V) (front back : List (Entry V)) → IsTable (front ++ e ∷ back)
      → (front ++ back ≡ without e.key e.rank (front ++ e ∷ back)) × (entry_at e.key e.rank (front ++ e ∷ back) ≡ Some e)
  lost e [] back is = grind (arith, without_absent, none_at)
  lost e (x ∷ front) back is =
      let ahead = all_at (λ f. IsTrue (precedes x f)) front back e is.1 in
      search (ahead_not_pair, lost e front back is.2)

  pub gains_entry : {e : Entry V} {old new : List (Entry V)} → Gains e old new → IsTable new → (new ≡ with_entry e old) × (entry_at e.key e.rank old ≡ None)
  gains_entry {e = e} g is = grind (arith, gained)

  pub loses_entry : (e : Entry V) {old new : List (Entry V)} → Gains e new old → IsTable old
      → (new ≡ without e.key e.rank old) × (entry_at e.key e.rank old ≡ Some e)
  loses_entry e g is = grind (arith, lost)
