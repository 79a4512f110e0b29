-- A bit node in use moves from its room to another: the rooms before the writes and after them.
use Rattle.radix_tree.proofs.{Beside.misses_leaf, Beside.misses_bit, Beside.over_at, WholeChanges.once_but, Facts.none_of, Facts.off_room, RoomReads.AreLinks}
use Rattle.radix_tree.proofs.{RoomReads.head_read, RoomReads.Has-bit}
use Rattle.radix_tree.proofs.Parts.{way_to_fork, fork_is, fork_stands, zero_part, one_part, fork_named, bit_part_of}
use Rattle.radix_tree.proofs.PartRooms.{forks_there, frame, way_once, way_counts, spine_out}
use Rattle.radix_tree.proofs.MovedReads.{one_if_is, at_room, content_lift, lift_used, rename_used, leaf_off, bit_off, Has_kept}
use Rattle.radix_tree.proofs.Words.{◌≡◌, ℕ, ◌+◌, ◌≤◌, ◌==◌, true, false, List, [], ◌∷◌, Option, Some, None, refl, sym, ap, ◌∙◌, arith, is_some, Has}
use Rattle.radix_tree.proofs.Words.{bit_node_of, Id, Links, Node, BitNode, BitPart, Part, leaves_in, bits_in, heads_in, bit_in, bit_part, name_of, ForkAt, Way}
use Rattle.radix_tree.proofs.Words.{one_if, leaves_at, forks_at, AreOnce, IsWholeBut, nobody_late, out_at, put_bit, put_head, lift_leaf, lift_bit, KeepsMasks}
use Rattle.radix_tree.proofs.Words.{rename, KeepsRoutes, CanTake, Lodged, IsBitNode, LeafOf, BitOf, inl, inr, bit_above, if◌then◌else◌, number_of, inside}
use Rattle.radix_tree.proofs.Words.{none_some}
use Rattle.radix_tree.specs.Removal.{HasNodesBeneath}

pub bit_said : (to : Id) (n : BitNode) {bit : ℕ} {left right : Node} {above : Option Id} → n.bit ≡ bit → n.zero ≡ left → n.one ≡ right → n.above ≡ above
    → bit_part to.block (Some n) ≡ Some (record { block = to.block; bit = bit; zero = left; one = right; above = above })
bit_said to n bit_is left_is right_is above_is = cc

-- a bit node that is lifted is one, in its block, with the nodes beneath it
lift_there : (at : Node) (above : Option Id) (n : ℕ) (p : BitPart) → (q : BitPart) × (lift_bit at above n (Some p) ≡ Some q) × (q.block ≡ p.block)
    × (q.zero ≡ p.zero) × (q.one ≡ p.one)
lift_there (LeafOf room) above n p = (p, refl, refl, refl, refl)
lift_there (BitOf room) above n p =
    elim (n == number_of room) as (λ t. (q : BitPart) × ((if t then bit_above above (Some p) else Some p) ≡ Some q) × (q.block ≡ p.block)
    × (q.zero ≡ p.zero) × (q.one ≡ p.one)) [
      | true ↦ (record p { above = above }, refl, refl, refl, refl)
      | false ↦ (p, refl, refl, refl, refl)
    ]

module _ {V : Type 0} where
  -- a bit node in use, in one room, that another room can take
  pub record IsMove (m : Lodged V) (root : Node) (from to : Id) (n : BitNode) : Type 0 where
    pub whole : IsWholeBut m root nobody_late (out_at (number_of from))
    pub once : AreOnce whole.part.tree
    pub key : ℕ
    pub at : Part m
    pub room : Id
    pub f : ForkAt at room
    pub number : number_of room ≡ (number_of from)
    pub ups : List (Part m)
    pub way : Way key whole.part at ups
    pub bit : n.bit ≡ f.bit
    pub left : n.zero ≡ name_of f.zero
    pub right : n.one ≡ name_of f.one
    pub above : n.above ≡ at.above
    pub head : heads_in m (number_of from) ≡ n.masks
    pub takes : CanTake m from to

  -- the bit node above that, with the nodes that it has beneath it
  record IsOver (m new : Lodged V) (up : Id) : Type 0 where
    over : Part m
    fork : ForkAt over up
    part : BitPart
    said : bits_in new (number_of up) ≡ Some part
    block : part.block ≡ up.block
    zero : part.zero ≡ name_of fork.zero
    one : part.one ≡ name_of fork.one

  -- a bit node of a tree is in the map
  fork_has : {m : Lodged V} (p : Part m) {room : Id} → name_of p.tree ≡ BitOf room → Has m room
  fork_has {m = m} p {room = room} named = Has-bit m room (fork_stands (fork_named p named)).0 refl

  -- what the writes leave
  pub record IsMoved (m new : Lodged V) (from to : Id) (n : BitNode) : Type 0 where
    pub leaves : (k : ℕ) → leaves_in new k ≡ lift_leaf n.one (Some to) k (lift_leaf n.zero (Some to) k (leaves_in m k))
    pub bits : (k : ℕ) → bits_in new k ≡ rename n.above from to k (put_bit to (Some n) k
        (put_bit from None k (lift_bit n.one (Some to) k (lift_bit n.zero (Some to) k (bits_in m k)))))
    pub heads : (k : ℕ) → heads_in new k ≡ put_head to (Some n) k (put_head from None k (heads_in m k))
    pub masks : KeepsMasks m new

  pub move_of : {m : Lodged V} {root : Node} (from to : Id) (links : Links) {n : BitNode} → IsWholeBut m root nobody_late (out_at (number_of from)) → Has m from
      → ((p : BitPart) → bits_in m (number_of from) ≡ Some p → CanTake m from to) → AreLinks m from links → bit_node_of links ≡ Some n → IsMove m root from to n
  move_of {m = m} from to links {n = n} w h takes are is =
      let said = ap bit_in h.at ∙ sym (ap (λ l. bit_part h.room.block (bit_node_of l)) (are h.room h.at)) ∙ ap (bit_part h.room.block) is in
      let count = w.forks (number_of from) ∙ ap (λ o. one_if (is_some o)) said in
      let found = way_to_fork m w.part (number_of from) (omega arith) in
      let same = inside (sym said ∙ ap (bits_in m) (sym found.number) ∙ (fork_stands found.at).0) in
      record {
        whole = w;
        once = once_but w;
        key = found.key;
        at = found.part;
        room = found.room;
        f = found.at;
        number = found.number;
        ups = found.ups;
        way = found.way;
        bit = ap (λ p. p.bit) same;
        left = ap (λ p. p.zero) same;
        right = ap (λ p. p.one) same;
        above = ap (λ p. p.above) same;
        head = head_read h links are is;
        takes = search arith;
      }

  -- ---- counts
  module _ {m : Lodged V} {root : Node} {from to : Id} {n : BitNode} (v : IsMove m root from to n) where
    pub at_once : AreOnce v.at.tree
    at_once = way_once v.key v.whole.part v.at v.ups v.way v.once

    pub at_forks : (k : ℕ) → forks_at k v.at.tree ≡ one_if (number_of v.room == k) + (forks_at k v.f.zero + forks_at k v.f.one)
    at_forks k = ap (forks_at k) v.f.is

    pub at_leaves : (k : ℕ) → leaves_at k v.at.tree ≡ leaves_at k v.f.zero + leaves_at k v.f.one
    at_leaves k = ap (leaves_at k) v.f.is

    from_here : one_if (number_of v.room == number_of from) ≡ 1
    from_here = one_if_is (number_of from) v.number

    pub from_in : 1 ≤ forks_at (number_of from) v.at.tree
    from_in = search (arith, at_forks, from_here)

    -- beneath it there is no bit node of the same room
    pub not_from : (k : ℕ) → 1 ≤ forks_at k v.f.zero + forks_at k v.f.one → k ≡ number_of from → ⊥
    not_from k some same =
        let sum = at_forks (number_of from) in
        search (arith, from_here, at_once)

    pub out_not_from : (k : ℕ) → forks_at k v.at.tree ≡ 0 → k ≡ number_of from → ⊥
    out_not_from k none same = search (arith, at_forks, from_here)

    -- the other room is no bit node of the tree
    pub not_to : (k : ℕ) → 1 ≤ forks_at k v.whole.part.tree → k ≡ number_of to → ⊥
    not_to k some same = search (arith, forks_there)

    pub beneath_whole : (k : ℕ) → forks_at k v.f.zero + forks_at k v.f.one ≤ forks_at k v.whole.part.tree
    beneath_whole k =
        let sum = at_forks k in
        let le = (way_counts m v.key v.whole.part v.at v.ups k v.way).1 in omega arith

    -- the rooms differ
    pub apart : number_of from ≡ number_of to → ⊥
    apart same = none_some (sym (ap (bits_in m) (v.number ∙ same) ∙ v.takes.free) ∙ (fork_stands v.f).0)

  -- the bit node above is in the tree, but not in the part
  pub spine_apart : (m : Lodged V) (key : ℕ) (whole at : Part m) (ups : List (Part m)) → Way key whole at ups → whole.above ≡ None → AreOnce whole.tree
      → (up : Id) → at.above ≡ Some up → (forks_at (number_of up) at.tree ≡ 0) × (1 ≤ forks_at (number_of up) whole.tree)
  spine_apart m key whole at [] way top once up is = search (arith, none_some)
  spine_apart m key whole at (p ∷ ps) way top once up is =
      let out = spine_out m way.0 (way_once key whole p ps way.1 once) in
      let le = (way_counts m key whole p ps (number_of way.0.room) way.1).1 in
      search arith

  module _ {m : Lodged V} {root : Node} {from to : Id} {n : BitNode} (v : IsMove m root from to n) where
    pub not_spine : (k : ℕ) → 1 ≤ forks_at k v.at.tree → (up : Id) → n.above ≡ Some up → k ≡ number_of up → ⊥
    not_spine k some up is same = search (arith, spine_apart)

    pub to_not_spine : (up : Id) → n.above ≡ Some up → number_of to ≡ number_of up → ⊥
    to_not_spine up is same = not_to v (number_of up) (spine_apart m v.key v.whole.part v.at v.ups v.way v.whole.top v.once up (sym v.above ∙ is)).1 (sym same)

    -- ---- before the writes
    pub left_there : (p : Part m) × (name_of p.tree ≡ n.zero)
    left_there = (zero_part v.f, sym v.left)

    pub right_there : (new : Lodged V) → ((k : ℕ) → leaves_in new k ≡ lift_leaf n.zero (Some to) k (leaves_in m k))
        → ((k : ℕ) → bits_in new k ≡ lift_bit n.zero (Some to) k (bits_in m k)) → (p : Part new) × (name_of p.tree ≡ n.one)
    right_there new leaves bits =
        let once = at_once v in (
          record {
            tree = v.f.one;
            low = v.f.bit + 1;
            above = Some v.room;
            is = (fork_is v.f).2;
            stands = frame (leaves_in m) (leaves_in new) (bits_in m) (bits_in new) (Some v.room) v.f.one
                (λ k some. let sum = at_leaves v k in let most = once.leaves k in
                leaves k ∙ misses_leaf n.zero k (leaf_off v.f.zero k v.left (omega arith)) (Some to) (leaves_in m k)) (λ k some. let sum = at_forks v k in
                bits k ∙ misses_bit n.zero k (bit_off v.f.zero k v.left (omega arith)) (Some to) (bits_in m k)) (fork_stands v.f).2;
          },
          sym v.right,
        )

    -- the bit node above is one still, once all but its names are written
    over_still : {new : Lodged V} (up : Id) → n.above ≡ Some up
        → ((k : ℕ) → bits_in new k ≡ put_bit to (Some n) k (put_bit from None k (lift_bit n.one (Some to) k (lift_bit n.zero (Some to) k (bits_in m k)))))
        → IsOver m new up
    over_still up is bits =
        let k = (number_of up) in
        let o = over_at m v.key v.whole.part v.at v.ups v.way v.whole.top (sym v.above) is in
        let zero_lifted = lift_there n.zero (Some to) k (bit_part_of o.1) in
        let one_lifted = lift_there n.one (Some to) k zero_lifted.0 in
        let said = lift_bit n.one (Some to) k (lift_bit n.zero (Some to) k (bits_in m k)) in
        record {
          over = o.0;
          fork = o.1;
          part = one_lifted.0;
          said = bits k ∙ off_room to k (bit_part to.block (Some n)) (put_bit from None k said) (λ same. to_not_spine up is (sym same))
              ∙ off_room from k (bit_part from.block None) said (λ same. not_spine (number_of from) (from_in v) up is (sym same))
              ∙ ap (lift_bit n.one (Some to) k) (ap (lift_bit n.zero (Some to) k) (fork_stands o.1).0 ∙ zero_lifted.1) ∙ one_lifted.1;
          block = one_lifted.2 ∙ zero_lifted.2;
          zero = one_lifted.3 ∙ zero_lifted.3;
          one = one_lifted.4 ∙ zero_lifted.4;
        }

    pub over_used : {new : Lodged V} (up : Id) → n.above ≡ Some up
        → ((k : ℕ) → bits_in new k ≡ put_bit to (Some n) k (put_bit from None k (lift_bit n.one (Some to) k (lift_bit n.zero (Some to) k (bits_in m k)))))
        → IsBitNode new up
    over_used up is bits = let o = over_still up is bits in record { part = o.part; said = o.said; block = o.block }

    -- and the bit nodes beneath it are in the map
    pub beneath_there : {new : Lodged V} (up : Id) → n.above ≡ Some up
        → ((k : ℕ) → bits_in new k ≡ put_bit to (Some n) k (put_bit from None k (lift_bit n.one (Some to) k (lift_bit n.zero (Some to) k (bits_in m k)))))
        → KeepsRoutes m new → HasNodesBeneath new up
    beneath_there {new = new} up is bits keeps p said room named =
        let o = over_still up is bits in
        let same = inside (sym o.said ∙ said) in
        Has_kept new (keeps (number_of room)) (elim named [
          | inl e ↦ fork_has (zero_part o.fork) (sym o.zero ∙ ap (λ q. q.zero) same ∙ e)
          | inr e ↦ fork_has (one_part o.fork) (sym o.one ∙ ap (λ q. q.one) same ∙ e)
        ])

  -- ---- after the writes
  -- each room has its route where the nodes beneath a bit node are lifted
  pub lifted_stay : (m new : Lodged V) (to : Id) (n : BitNode)
      → ((k : ℕ) → leaves_in new k ≡ lift_leaf n.one (Some to) k (lift_leaf n.zero (Some to) k (leaves_in m k))) → KeepsRoutes m new
  lifted_stay m new to n leaves k = search (arith, content_lift)

  module _ {m new : Lodged V} {from to : Id} {n : BitNode} (d : IsMoved m new from to n) where
    pub contents_stay : KeepsRoutes m new
    contents_stay = lifted_stay m new to n d.leaves

    used_is : (k : ℕ) → is_some (bits_in new k) ≡ is_some (put_bit to (Some n) k
        (put_bit from None k (lift_bit n.one (Some to) k (lift_bit n.zero (Some to) k (bits_in m k)))))
    used_is k = search (arith, rename_used)

    -- a bit node is in use in each room where one was, but for the two rooms
    pub used_stays : (k : ℕ) → (k ≡ number_of from → ⊥) → (k ≡ number_of to → ⊥) → is_some (bits_in new k) ≡ is_some (bits_in m k)
    used_stays k other off = search (arith, used_is, off_room, lift_used)

    pub used_to : (k : ℕ) → k ≡ number_of to → is_some (bits_in new k) ≡ true
    used_to k same = search (arith, used_is, at_room)

    pub used_from : (number_of from ≡ number_of to → ⊥) → (k : ℕ) → k ≡ number_of from → is_some (bits_in new k) ≡ false
    used_from other k same = search (arith, used_is, off_room, at_room)

    pub gone : {root : Node} → IsMove m root from to n → bits_in new (number_of from) ≡ None
    gone v = none_of (bits_in new (number_of from)) (used_from (apart v) (number_of from) refl)

    -- a room that is neither of the two
    pub bit_lifts : (k : ℕ) → (k ≡ number_of from → ⊥) → (k ≡ number_of to → ⊥)
        → bits_in new k ≡ rename n.above from to k (lift_bit n.one (Some to) k (lift_bit n.zero (Some to) k (bits_in m k)))
    bit_lifts k other off = search (arith, off_room)

    pub head_stays : (k : ℕ) → (k ≡ number_of from → ⊥) → (k ≡ number_of to → ⊥) → heads_in new k ≡ heads_in m k
    head_stays k other off = search (arith, off_room)
