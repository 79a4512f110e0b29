-- The only route of a tree, and a room that leaves the map.
use Rattle.radix_tree.proofs.{WholeRoutes.part_shown, MovedReads.none_or_some, MovedReads.one_if_not, MovedReads.content_used, Facts.no_use, Facts.none_of}
use Rattle.radix_tree.proofs.{ChainRemovals.leaf_is, TreeMembers.among_at, JoinSides.has_previous, RoomReads.AreLinks, Beside.stays, Plugs.counted_leaf}
use Rattle.radix_tree.proofs.{Plugs.spare_same, PlugLists.marked_same, PlugLists.lists_same, MovedWhole.out_leaf, MovedWhole.out_apart}
use Rattle.radix_tree.proofs.Words.{◌≡◌, ℕ, ◌≤◌, ◌⊎◌, true, List, [], ◌∷◌, Option, Some, None, refl, sym, ap, ◌∙◌, inl, inr, arith, eqb-true, is_some, Has}
use Rattle.radix_tree.proofs.Words.{leaf_of, Id, Links, Leaf, Node, Placed, Tree, leaf, fork, routes_of, LeafPart, Leaves, Bits, leaf_in, leaves_in, bits_in}
use Rattle.radix_tree.proofs.Words.{first_room, ChainStands, Stands, one_if, members_at, leaves_at, shown, shown_entry, Gains, IsWholeBut, is_of_key, has_key}
use Rattle.radix_tree.proofs.Words.{late_at, nobody_out, CanTake, member_beside, Lodged, cases_eq, number_of, inside, none_some, ◌+◌, if◌then◌else◌, eq-eqb}
use Rattle.radix_tree.proofs.Words.{ne_eqb, get, Seen, MaskPart, Part, bit_in, head_in, mask_in, masks_in, IsWhole, Holds, HasRoomMore, nobody_late, out_at}
use Rattle.radix_tree.proofs.Words.{content_of, KeepsRoutes, IsOut, Entry}
use Rattle.radix_nodes.proofs.Callers.{get-removed}
use Rattle.std.specs.FinMap.{remove}

-- ---- the other member of a chain
pub beside_is : (next previous : Option Id) {to : Id} → member_beside next previous ≡ Some to → (next ≡ Some to) ⊎ (previous ≡ Some to)
beside_is next previous is = search arith

pub beside_none : (next previous : Option Id) → member_beside next previous ≡ None → (next ≡ None) × (previous ≡ None)
beside_none next previous is = search arith

module _ {V : Type 0} where
  -- ---- a room's leaf
  pub leaf_at : {m : Lodged V} {room : Id} → Has m room → (p : LeafPart V) × (leaves_in m (number_of room) ≡ Some p)
  leaf_at h = (record { block = h.room.block; value = h.room.value; leaf = leaf_of h.room.links }, ap leaf_in h.at)

  pub member_is : {m : Lodged V} {room to : Id} (links : Links) {l : Leaf} {o : Option Id} → Has m room → AreLinks m room links → l ≡ leaf_of links
      → o ≡ member_beside l.next l.previous → o ≡ Some to
      → (p : LeafPart V) → leaves_in m (number_of room) ≡ Some p → (p.leaf.next ≡ Some to) ⊎ (p.leaf.previous ≡ Some to)
  member_is links h are reads beside some p said = search (arith, leaf_is, beside_is)

  pub alone_is : {m : Lodged V} {room : Id} (links : Links) {l : Leaf} {o : Option Id} → Has m room → AreLinks m room links → l ≡ leaf_of links
      → o ≡ member_beside l.next l.previous → o ≡ None
      → (p : LeafPart V) → leaves_in m (number_of room) ≡ Some p → (p.leaf.next ≡ None) × (p.leaf.previous ≡ None)
  alone_is links h are reads beside none p said = search (arith, leaf_is, beside_none)

  -- ---- the other member's room takes the bit node
  same_key : (key : ℕ) {o : Option (LeafPart V)} (p : LeafPart V) → is_of_key key o ≡ true → o ≡ Some p → p.leaf.key ≡ key
  same_key key p has is = eqb-true p.leaf.key key (sym (ap (is_of_key key) is) ∙ has)

  pub can_take : (m : Lodged V) (from to : Id) (key : ℕ) → ((number_of to) ≡ (number_of from) → ⊥) → has_key m key (number_of to) ≡ true
      → ((n : ℕ) → has_key m key n ≡ true → (n ≡ (number_of from) → ⊥) → bits_in m n ≡ None) → CanTake m from to
  can_take m from to key other has idle = search (arith, same_key)

  -- ---- the only route
  pub record IsOnly (t : Tree V) (n : ℕ) (p : LeafPart V) : Type 0 where
    pub route : Placed V
    pub is : t ≡ leaf route []
    pub number : (number_of route.room) ≡ n
    pub entry : route.entry ≡ shown_entry p

  behind_named : (L : Leaves V) (above : Option Id) (before : Id) (c : List (Placed V)) (n : ℕ) {p : LeafPart V} → ChainStands L above (Some before) c
      → 1 ≤ members_at n c → L n ≡ Some p → p.leaf.previous ≡ None → ⊥
  behind_named L above before c n stands some said none =
      let y = among_at n c some in has_previous L above before c y.0 stands y.1 (ap L y.2 ∙ said) none

  beneath_named : (L : Leaves V) (B : Bits) (up : Id) (t : Tree V) (n : ℕ) {p : LeafPart V} → Stands L B (Some up) t → 1 ≤ leaves_at n t → L n ≡ Some p
      → p.leaf.previous ≡ None → p.leaf.above ≡ None → ⊥
  beneath_named L B up (leaf x xs) n stands some said previous above =
      elim (cases_eq (number_of x.room) n) [
        | inl same ↦ search (arith, none_some, inside)
        | inr other ↦ let off = one_if_not (number_of x.room) n other in
            behind_named L None x.room xs n stands.1 (omega arith) said previous
      ]
  beneath_named L B up (fork room b left right) n stands some said previous above = elim (none_or_some (leaves_at n left)) [
    | inl none ↦ beneath_named L B room right n stands.2 (omega arith) said previous above
    | inr there ↦ beneath_named L B room left n stands.1 there said previous above
  ]

  no_behind : (x : Placed V) (xs : List (Placed V)) → first_room xs ≡ None → leaf x xs ≡ leaf x []
  no_behind x xs none = search arith

  only_of : (L : Leaves V) (B : Bits) (top : Option Id) (t : Tree V) (n : ℕ) (p : LeafPart V) → Stands L B top t → 1 ≤ leaves_at n t → L n ≡ Some p
      → p.leaf.next ≡ None → p.leaf.previous ≡ None → p.leaf.above ≡ None → IsOnly t n p
  only_of L B top (leaf x xs) n p stands some said next previous above = elim (cases_eq (number_of x.room) n) [
    | inl same ↦ let is = inside (sym stands.0 ∙ ap L same ∙ said) in
        record { route = x; is = no_behind x xs (ap (λ q. q.leaf.next) is ∙ next); number = same; entry = ap shown_entry is }
    | inr other ↦ let off = one_if_not (number_of x.room) n other in
        absurd (behind_named L None x.room xs n stands.1 (omega arith) said previous)
  ]
  only_of L B top (fork room b left right) n p stands some said next previous above = elim (none_or_some (leaves_at n left)) [
    | inl none ↦ absurd (beneath_named L B room right n stands.2 (omega arith) said previous above)
    | inr there ↦ absurd (beneath_named L B room left n stands.1 there said previous above)
  ]

  module _ {m : Lodged V} {root : Node} (n : ℕ) (w : IsWholeBut m root (late_at n) nobody_out) (p : LeafPart V) where
    pub only : leaves_in m n ≡ Some p → p.leaf.next ≡ None → p.leaf.previous ≡ None → p.leaf.above ≡ None → IsOnly w.part.tree n p
    only said next previous above =
        let count = w.leaves n ∙ ap (λ o. one_if (is_some o)) said in
        only_of (leaves_in m) (bits_in m) w.part.above w.part.tree n p w.part.stands (omega arith) said next previous above

    pub only_room : IsOnly w.part.tree n p → (k : ℕ) → (k ≡ n → ⊥) → leaves_in m k ≡ None
    only_room o k other = search (arith, one_if_not, none_of, no_use)

    pub only_shown : IsOnly w.part.tree n p → Gains (shown_entry p) [] (shown m (Some root))
    only_shown o = record {
      front = [];
      back = [];
      was = refl;
      now = part_shown w.part w.low w.named ∙ ap routes_of o.is ∙ ap (λ e. e ∷ []) o.entry;
    }

  -- -------- a room that is out of the tree leaves the map: the whole and its routes stay
  -- ---- what the rooms say once one of them is gone
  pub get_out : (m : Lodged V) (n : ℕ) → get (remove m n) n ≡ None
  get_out m n = get-removed m n n ∙ ap (λ t. if t then None else get m n) (eq-eqb n n refl)

  pub get_other : (m : Lodged V) (n k : ℕ) → (k ≡ n → ⊥) → get (remove m n) k ≡ get m k
  get_other m n k other = get-removed m n k ∙ ap (λ t. if t then None else get m k) (ne_eqb k n other)

  role_stays : {A : Type 0} (f : Option (Seen V) → A) (m : Lodged V) (n : ℕ) → f (get m n) ≡ f None → (k : ℕ) → f (get (remove m n) k) ≡ f (get m k)
  role_stays f m n none k = search (arith, cases_eq, get_out, get_other)

  no_head : (o : Option (Seen V)) → bit_in o ≡ None → head_in o ≡ None
  no_head o none = search arith

  module _ {m : Lodged V} {root : Node} (n : ℕ) (w : IsWholeBut m root nobody_late (out_at n)) where
    -- no mask is listed of a room that is out of the tree
    no_mask : (o : Option MaskPart) → masks_in m n ≡ o → masks_in m n ≡ None
    no_mask None is = is
    no_mask (Some p) is =
        let x = w.listed n p is in
        let out = out_leaf n w in
        search (arith, counted_leaf)

    -- ---- the tree stays
    abbrev part_left : bits_in m n ≡ None → Part (remove m n)
    part_left none = stays m (remove m n) w.part (λ k some. ap leaf_in (get_other m n k (out_apart n w k some)))
        (λ k some. role_stays bit_in m n none k)

    leaves_left : (k : ℕ) → leaves_at k w.part.tree + 0 ≡ one_if (is_some (leaves_in (remove m n) k))
    leaves_left k =
        elim (cases_eq k n) [
          | inl same ↦ search (arith, out_leaf, get_out)
          | inr other ↦ search (arith, ne_eqb, get_other)
        ]

    pub evicted : bits_in m n ≡ None → IsWhole (remove m n) root
    evicted none =
        let bits = role_stays bit_in m n none in
        let heads = role_stays head_in m n (no_head (get m n) none) in
        let masks = role_stays mask_in m n (no_mask (masks_in m n) refl) in
        record {
          part = part_left none;
          low = w.low;
          top = w.top;
          named = w.named;
          leaves = leaves_left;
          forks = λ k. w.forks k ∙ ap (λ o. one_if (is_some o)) (sym (bits k));
          spare = search (arith, spare_same, counted_leaf);
          lists = search (arith, lists_same);
          listed = λ k p is. w.listed k p (sym (masks k) ∙ is);
          all = search (arith, marked_same);
        }

    evicted_shown : bits_in m n ≡ None → shown (remove m n) (Some root) ≡ shown m (Some root)
    evicted_shown none = part_shown (part_left none) w.low w.named ∙ sym (part_shown w.part w.low w.named)

  -- ---- a room that is out, where there may be no tree left
  pub out_gone : (m : Lodged V) (rest : Option Node) (n : ℕ) → IsOut m rest n → Holds (remove m n) rest
  out_gone m rest n out = search (arith, get_out, get_other, evicted)

  pub out_shown : (m : Lodged V) (rest : Option Node) (n : ℕ) → IsOut m rest n → shown (remove m n) rest ≡ shown m rest
  out_shown m rest n out = search (arith, evicted_shown)

  -- ---- a table's removal
  pub gains_stays : {e : Entry V} {old : List (Entry V)} (now : List (Entry V)) {before : List (Entry V)} (after : List (Entry V)) → Gains e old before
      → now ≡ old → after ≡ before → Gains e now after
  gains_stays now after g same too = search arith

  -- the value that is taken is the route's
  value_of : (o : Option (Seen V)) (p : LeafPart V) (value : V) → ((s : Seen V) → o ≡ Some s → value ≡ s.value) → content_of (leaf_in o) ≡ content_of (Some p)
      → value ≡ p.value
  value_of o p value is same = search (arith, inside)

  pub value_taken : (m now : Lodged V) (n : ℕ) (p : LeafPart V) (value : V) → ((s : Seen V) → get now n ≡ Some s → value ≡ s.value)
      → content_of (leaves_in now n) ≡ content_of (leaves_in m n) → leaves_in m n ≡ Some p → value ≡ p.value
  value_taken m now n p value is same said = value_of (get now n) p value is (same ∙ ap content_of said)

  -- the map has one room less
  pub room_less : (m now : Lodged V) (at : Id) → Has m at → KeepsRoutes m now → HasRoomMore (remove now (number_of at)) m (number_of at)
  room_less m now at h same k = search (arith, cases_eq, eq-eqb, content_used, get_other, ne_eqb)
