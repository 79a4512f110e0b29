-- A table's tree gains or loses a route.
--     first_whole                    the first route of a table
--     shown_same                     rooms that say the same of leaves and bit nodes show the same
--     nobody, among_left, new_left   whose masks are not listed yet
--     IsLost, lost                   what a route that goes leaves
use Rattle.radix_tree.proofs.{Parts.leaf_run, WholeRoutes.shown_is, WholeRoutes.loses_entry, WholeChanges.later_than, Facts.test_turned, TreeMembers.of_key}
use Rattle.radix_tree.proofs.{Kept.IsFound, Kept.shown_table}
use Rattle.radix_tree.proofs.Words.{none_some, ◌≡◌, ℕ, ◌+◌, ◌==◌, ◌&&◌, ◌||◌, Bool, true, false, not, if◌then◌else◌, List, Option, Some, None, is_some, refl}
use Rattle.radix_tree.proofs.Words.{sym, ap, ◌∙◌, subst, inl, arith, eqb-true, eq-eqb, get, Seen, Id, Leaf, Node, LeafOf, IsRoute, without, leaf, LeafPart}
use Rattle.radix_tree.proofs.Words.{Part, leaves_in, leaf_part, first_room, LedTo, Gains, placed, IsWholeBut, has_key, nobody_late, nobody_out, late_at}
use Rattle.radix_tree.proofs.Words.{lodge_leaf, KeepsLeaves, KeepsBits, KeepsMasks, one_if, beneath_shown, shown, shown_entry, IsWhole, Holds, Entry, Lodged}
use Rattle.radix_tree.proofs.Words.{[], true≢false, number_of}

and_not : (a b : Bool) → (a && not b) ≡ true → (a ≡ true) × (b ≡ false)
and_not a b e = search arith

or_left : (a b : Bool) → (a || b) ≡ true → a ≡ false → b ≡ true
or_left a b e none = search arith

module _ {V : Type 0} where
  -- ---- the first route
  no_room : (m : Lodged V) (n : ℕ) (o : Option (Seen V)) → get m n ≡ o → leaves_in m n ≡ None → get m n ≡ None
  no_room m n o is none = search arith

  abbrev lodged_part : Id → V → Leaf → Option (LeafPart V)
  lodged_part id value l = Some (record { block = id.block; value = value; leaf = l })

  lodged_at : (id : Id) (value : V) (l : Leaf) (n : ℕ) (b : Bool) → one_if b + 0 + 0 ≡ one_if (is_some (if b then lodged_part id value l else None))
  lodged_at id value l n b = search arith

  pub first_whole : (m new : Lodged V) (id : Id) {e : Entry V} (l : Leaf)
      → l ≡ record { key = e.key; rank = e.rank; above = None; next = None; previous = None } → Holds m None → IsRoute e
      → ((n : ℕ) → leaves_in new n ≡ lodge_leaf id e.value l n (leaves_in m n)) → KeepsBits m new → KeepsMasks m new
      → IsWhole new (LeafOf id) × Gains e [] (shown new (Some (LeafOf id)))
  first_whole m new id {e = e} l leaf_is none route leaves bits masks =
      let at = leaves (number_of id) ∙ ap (λ b. if b then lodged_part id e.value l else leaves_in m (number_of id)) (eq-eqb (number_of id) (number_of id) refl)
      ∙ ap (lodged_part id e.value) leaf_is in
      let gone = λ (n : ℕ). no_room m n (get m n) refl (none n) in
      let w : IsWhole new (LeafOf id) = record {
        part = record { tree = leaf (placed id e) []; low = 0; above = None; is = (omega arith, (route, refl, omega arith, tt)); stands = (at, tt) };
        low = refl;
        top = refl;
        named = refl;
        leaves = search (arith, test_turned, lodged_at);
        forks = search arith;
        spare = inl tt;
        lists = tt;
        listed = search (arith, none_some);
        all = λ x at home. absurd home;
      } in
      (w, record { front = []; back = []; was = refl; now = shown_is w })

  -- ---- rooms that say the same
  pub shown_same : (m new : Lodged V) (root : Node) → KeepsLeaves m new → KeepsBits m new → shown new (Some root) ≡ shown m (Some root)
  shown_same m new root leaves bits = λ i. beneath_shown 33 (λ n. leaves n i) (λ n. bits n i) root

  pub gains_same : (e : Entry V) (es : List (Entry V)) (m new : Lodged V) (root : Node) → Gains e es (shown m (Some root)) → KeepsLeaves m new
      → KeepsBits m new → Gains e es (shown new (Some root))
  gains_same e es m new root g leaves bits = subst (Gains e es) (sym (shown_same m new root leaves bits)) g

  -- ---- whose masks are not listed yet
  not_late : {m : Lodged V} {root : Node} {late : ℕ → Bool} → IsWholeBut m root late nobody_out → ((n : ℕ) → late n ≡ true → ⊥) → IsWhole m root
  not_late w never = later_than nobody_late (λ n is. absurd (never n is)) w

  -- the route of one room was late, and is listed now
  pub among_left : {m : Lodged V} {root : Node} (room id : ℕ) → id ≡ room → IsWholeBut m root (λ n. late_at room n && not (n == id)) nobody_out → IsWhole m root
  among_left {m = m} room id same w = not_late w (search (arith, and_not, true≢false, eq-eqb, eqb-true))

  -- and with it the routes of a key
  pub new_left : (m old : Lodged V) {root : Node} (room : ℕ) {id : ℕ} (key k : ℕ) (was : ℕ → Bool) → id ≡ room → k ≡ key
      → ((n : ℕ) → was n ≡ true → has_key old key n ≡ true)
      → IsWholeBut m root (λ n. (((n == room) || was n) && not (n == id)) && not (has_key old k n)) nobody_out → IsWhole m root
  new_left m old {root = root} room {id = id} key k was same key_is stays w = not_late w (search (arith, and_not, true≢false, or_left))

  -- ---- the leaf beside which a route comes in
  -- what the first room of a leaf says
  pub record IsBegun (m : Lodged V) (key : ℕ) (first : Id) : Type 0 where
    pub part : LeafPart V
    pub at : leaves_in m (number_of first) ≡ Some part
    pub block : part.block ≡ first.block
    pub key_is : part.leaf.key ≡ key
    pub previous : part.leaf.previous ≡ None

  pub led_begun : (m : Lodged V) {key : ℕ} {whole : Part m} {first : Id} (d : LedTo key whole first) → IsBegun m d.leaf.first.entry.key first
  led_begun m d =
      record {
        part = leaf_part d.leaf.first d.part.above None (first_room d.leaf.rest);
        at = search (arith, leaf_run);
        block = ap (λ i. i.block) d.leaf.room_is;
        key_is = refl;
        previous = refl;
      }

  -- each leaf keeps what it says but for the bit node above
  abbrev pub KeepsButAbove : Lodged V → Lodged V → Type 0
  KeepsButAbove old new = (n : ℕ) (p : LeafPart V) → leaves_in old n ≡ Some p
      → (a : Option Id) × (leaves_in new n ≡ Some (record p { leaf = record p.leaf { above = a } }))

  pub still_begun : {m : Lodged V} (new : Lodged V) {key : ℕ} {first : Id} → IsBegun m key first → KeepsButAbove m new → IsBegun new key first
  still_begun new {first = first} b keeps =
      let k = keeps (number_of first) b.part b.at in
      search arith

  pub same_begun : {m : Lodged V} (new : Lodged V) {key : ℕ} {first : Id} → IsBegun m key first → KeepsLeaves m new → IsBegun new key first
  same_begun new {first = first} b leaves = record {
    part = b.part;
    at = leaves (number_of first) ∙ b.at;
    block = b.block;
    key_is = b.key_is;
    previous = b.previous;
  }

  pub still_key : (m new last : Lodged V) (key n : ℕ) → KeepsButAbove m new → KeepsLeaves new last → has_key m key n ≡ true → has_key last key n ≡ true
  still_key m new last key n keeps leaves has = search (arith, of_key)

  -- ---- a route that goes
  pub record IsLost (m new : Lodged V) (root : Node) (after : Option Node) (key rank : ℕ) (e : Entry V) : Type 0 where
    pub gains : Gains e (shown new after) (shown m (Some root))
    pub entries : shown new after ≡ without key rank (shown m (Some root))

  pub lost : {m : Lodged V} (new : Lodged V) {root : Node} (after : Option Node) {key rank : ℕ} {at : Id} → Holds m (Some root)
      → (f : IsFound m root key rank at)
      → ((p : LeafPart V) → leaves_in m (number_of at) ≡ Some p → Gains (shown_entry p) (shown new after) (shown m (Some root)))
      → IsLost m new root after key rank f.route.entry
  lost {m = m} new {root = root} after {key = key} holds f routes =
      let e = f.route.entry in
      let gains = subst (λ e. Gains e (shown new after) (shown m (Some root))) f.said.entry (routes f.said.part f.said.at) in
      record {
        gains = gains;
        entries = (loses_entry e gains (shown_table m (Some root) holds)).0
            ∙ ap (λ k. without k e.rank (shown m (Some root))) f.has.0 ∙ ap (λ r. without key r (shown m (Some root))) f.has.1;
      }
