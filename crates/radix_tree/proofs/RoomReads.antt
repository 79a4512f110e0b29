-- What is read of a room that stands for a part of a tree, and what the rooms say once one of them has other links.
use Rattle.radix_tree.proofs.Words.{arith, ◌≡◌, Option, Some, None, ap, ◌∙◌, get, Ptr, Seen, Has, leaf_of, bit_node_of, Id, BitNode, Links, LeafPart, BitPart}
use Rattle.radix_tree.proofs.Words.{MaskPart, bit_part, leaf_in, bit_in, mask_in, leaves_in, bits_in, heads_in, masks_in, Lodged, number_of, inside, none_some}
use Rattle.radix_tree.proofs.Words.{ℕ, ◌==◌, Bool, true, false, if◌then◌else◌, refl, sym, eqb-true, seen, put_room, put_links, mask_node_of, Leaf, MaskNode}
use Rattle.radix_tree.proofs.Words.{head_in, head_part, mask_part, lodge_leaf, put_leaf, with_leaf, put_bit, put_head, put_mask, KeepsLeaves, KeepsBits}
use Rattle.radix_tree.proofs.Words.{KeepsHeads, KeepsMasks, IsBitNodeOf, Part, first_room, leaf_part, LeafAt, leaf_above}
use Rattle.radix_nodes.proofs.Callers.{get-put_room, get-put_links}

-- the bit node is the one that the tree has there
pub record IsNode (n : BitNode) (p : BitPart) : Type 0 where
  pub bit : n.bit ≡ p.bit
  pub zero : n.zero ≡ p.zero
  pub one : n.one ≡ p.one
  pub above : n.above ≡ p.above

pub node_said : {said : Option BitPart} {block : Ptr} {n : BitNode} {p : BitPart} → said ≡ bit_part block (Some n) → said ≡ Some p → IsNode n p
node_said e is = search

module _ {V : Type 0} where
  -- these are the links of a room of the map
  abbrev pub AreLinks : Lodged V → Id → Links → Type 0
  AreLinks m room links = (s : Seen V) → get m (number_of room) ≡ Some s → links ≡ s.links

  -- ---- as a leaf
  leaf_there : (m : Lodged V) (room : Id) (p : LeafPart V) (o : Option (Seen V)) → get m (number_of room) ≡ o → leaf_in o ≡ Some p → p.block ≡ room.block
      → Has m room
  leaf_there m room p None at e block = absurd (none_some e)
  leaf_there m room p (Some s) at e block = record { room = s; at = at; block = ap (λ q. q.block) (inside e) ∙ block }

  pub Has-leaf : (m : Lodged V) (room : Id) {p : LeafPart V} → leaves_in m (number_of room) ≡ Some p → p.block ≡ room.block → Has m room
  Has-leaf m room {p = p} e block = search (leaf_there)

  pub leaf_read : (m : Lodged V) (room : Id) {p : LeafPart V} (links : Links) → leaves_in m (number_of room) ≡ Some p → p.block ≡ room.block → AreLinks m room
      links → leaf_of links ≡ p.leaf
  leaf_read m room links e block are = grind arith

  pub value_read : (m : Lodged V) (room : Id) {p : LeafPart V} (value : V) → leaves_in m (number_of room) ≡ Some p → p.block ≡ room.block
      → ((s : Seen V) → get m (number_of room) ≡ Some s → value ≡ s.value) → value ≡ p.value
  value_read m room value e block is = grind arith

  -- ---- as a bit node
  bit_there : (m : Lodged V) (room : Id) (p : BitPart) (o : Option (Seen V)) → get m (number_of room) ≡ o → bit_in o ≡ Some p → p.block ≡ room.block
      → Has m room
  bit_there m room p None at e block = absurd (none_some e)
  bit_there m room p (Some s) at e block = record { room = s; at = at; block = grind arith }

  pub Has-bit : (m : Lodged V) (room : Id) {p : BitPart} → bits_in m (number_of room) ≡ Some p → p.block ≡ room.block → Has m room
  Has-bit m room {p = p} e block = search (bit_there)

  pub bit_read : (m : Lodged V) (room : Id) {p : BitPart} (links : Links) {n : BitNode} → bits_in m (number_of room) ≡ Some p → p.block ≡ room.block
      → AreLinks m room links → bit_node_of links ≡ Some n → IsNode n p
  bit_read m room {p = p} links e block are is = grind arith

  pub bit_used : (m : Lodged V) (room : Id) {p : BitPart} (links : Links) → bits_in m (number_of room) ≡ Some p → p.block ≡ room.block → AreLinks m room links
      → bit_node_of links ≡ None → ⊥
  bit_used m room {p = p} links e block are none = grind arith

  module _ {m : Lodged V} {room : Id} (h : Has m room) where
    pub head_read : (links : Links) {n : BitNode} → AreLinks m room links → bit_node_of links ≡ Some n → heads_in m (number_of room) ≡ n.masks
    head_read links are is = grind arith

  -- ---- as a mask node
  mask_there : (m : Lodged V) (room : Id) (p : MaskPart) (o : Option (Seen V)) → get m (number_of room) ≡ o → mask_in o ≡ Some p → p.block ≡ room.block → Has m
      room
  mask_there m room p None at e block = absurd (none_some e)
  mask_there m room p (Some s) at e block = record { room = s; at = at; block = grind arith }

  pub Has-mask : (m : Lodged V) (room : Id) {p : MaskPart} → masks_in m (number_of room) ≡ Some p → p.block ≡ room.block → Has m room
  Has-mask m room {p = p} e block = search (mask_there)

-- -------- what the rooms say in each role once one of them has other links
through_if : {A B : Type 0} (f : A → B) (t : Bool) (x y : A) → f (if t then x else y) ≡ (if t then f x else f y)
through_if f t x y = search arith

module _ {V : Type 0} where
  module _ {m : Lodged V} {room : Id} (h : Has m room) where
    -- a role of each room, once one of them has other links
    role : {A : Type 0} (f : Option (Seen V) → A) (new : Lodged V) (links : Links) → new ≡ put_links m room links → (n : ℕ)
        → f (get new n) ≡ (if n == (number_of room) then f (Some (seen room.block h.room.value links)) else f (get m n))
    role f new links is n = search (arith, get-put_links, through_if)

    there : (n : ℕ) → (n == number_of room) ≡ true → get m n ≡ Some h.room
    there n e = ap (get m) (eqb-true n (number_of room) e) ∙ h.at

    -- it stays where the new links say the same
    kept : {A : Type 0} (f : Option (Seen V) → A) (new : Lodged V) (links : Links) → new ≡ put_links m room links
        → f (Some (seen room.block h.room.value links)) ≡ f (Some h.room) → (n : ℕ) → f (get new n) ≡ f (get m n)
    kept f new links is same n = role f new links is n
        ∙ elim (n == number_of room) as (λ t. (n == number_of room) ≡ t → (if t then f (Some (seen room.block h.room.value links)) else f (get m n)) ≡ f
        (get m n)) [
          | true ↦ λ e. same ∙ sym (ap f (there n e))
          | false ↦ λ e. refl
        ] refl

  -- ---- each role
  part : Ptr → V → Leaf → LeafPart V
  part block value leaf = search

  pub leaves_kept : {m new : Lodged V} {room : Id} (links old : Links) → Has m room → new ≡ put_links m room links → AreLinks m room old
      → leaf_of links ≡ leaf_of old → KeepsLeaves m new
  unfolding part
  leaves_kept {m = m} {new = new} links old h is are same = kept h leaf_in new links is (grind arith)

  module _ {m : Lodged V} {room : Id} (h : Has m room) where
    pub bits_kept : {new : Lodged V} (links old : Links) → new ≡ put_links m room links → AreLinks m room old → bit_node_of links ≡ bit_node_of old
        → KeepsBits m new
    bits_kept {new = new} links old is are same = kept h bit_in new links is (grind arith)

    pub heads_kept : {new : Lodged V} (links old : Links) → new ≡ put_links m room links → AreLinks m room old → bit_node_of links ≡ bit_node_of old
        → KeepsHeads m new
    heads_kept {new = new} links old is are same = kept h head_in new links is (ap head_part (same ∙ ap bit_node_of (are h.room h.at)))

    pub masks_kept : {new : Lodged V} (links old : Links) → new ≡ put_links m room links → AreLinks m room old → mask_node_of links ≡ mask_node_of old
        → KeepsMasks m new
    masks_kept {new = new} links old is are same = kept h mask_in new links is (grind arith)

    pub bits_put : {new : Lodged V} (links : Links) {node : Option BitNode} → new ≡ put_links m room links → bit_node_of links ≡ node → (n : ℕ)
        → bits_in new n ≡ put_bit room node n (bits_in m n)
    bits_put {new = new} links is said n = role h bit_in new links is n ∙ ap (λ o. put_bit room o n (bits_in m n)) said

    pub heads_put : {new : Lodged V} (links : Links) {node : Option BitNode} → new ≡ put_links m room links → bit_node_of links ≡ node → (n : ℕ)
        → heads_in new n ≡ put_head room node n (heads_in m n)
    heads_put {new = new} links is said n = role h head_in new links is n ∙ ap (λ o. put_head room o n (heads_in m n)) said

    pub masks_put : {new : Lodged V} (links : Links) {node : Option MaskNode} → new ≡ put_links m room links → mask_node_of links ≡ node → (n : ℕ)
        → masks_in new n ≡ put_mask room node n (masks_in m n)
    masks_put {new = new} links is said n = role h mask_in new links is n ∙ ap (λ o. put_mask room o n (masks_in m n)) said

  pub leaves_put : {m new : Lodged V} (room : Id) (links : Links) (leaf : Leaf) → Has m room → new ≡ put_links m room links → leaf_of links ≡ leaf
      → (n : ℕ) → leaves_in new n ≡ put_leaf room leaf n (leaves_in m n)
  unfolding part
  leaves_put {m = m} {new = new} room links leaf h is said n = role h leaf_in new links is n ∙ elim (n == number_of room) as (λ t. (n == number_of room) ≡ t
      → (if t then Some (part room.block h.room.value (leaf_of links)) else leaf_in (get m n))
      ≡ (if t then with_leaf leaf (leaf_in (get m n)) else leaf_in (get m n))) [
        | true ↦ grind arith
        | false ↦ λ e. refl
      ] refl

  -- ---- a room that is lodged
  lodged_role : {A : Type 0} (f : Option (Seen V) → A) (m : Lodged V) (room : Id) (value : V) (links : Links) (n : ℕ)
      → f (get (put_room m room value links) n) ≡ (if n == (number_of room) then f (Some (seen room.block value links)) else f (get m n))
  lodged_role f m room value links n = search (arith, get-put_room)

  -- it says nothing new in a role in which its links say nothing
  lodged_kept : {A : Type 0} (f : Option (Seen V) → A) (m : Lodged V) (room : Id) (value : V) (links : Links) → get m (number_of room) ≡ None
      → f (Some (seen room.block value links)) ≡ f None → (n : ℕ) → f (get (put_room m room value links) n) ≡ f (get m n)
  lodged_kept f m room value links free same n = lodged_role f m room value links n
      ∙ elim (n == number_of room) as (λ t. (n == number_of room) ≡ t → (if t then f (Some (seen room.block value links)) else f (get m n)) ≡ f (get m n)) [
        | true ↦ grind arith
        | false ↦ λ e. refl
      ] refl

  pub lodged_bits : (m : Lodged V) (room : Id) (value : V) (links : Links) → get m (number_of room) ≡ None → bit_node_of links ≡ None
      → KeepsBits m (put_room m room value links)
  lodged_bits m room value links free none = lodged_kept bit_in m room value links free (ap (bit_part room.block) none)

  pub lodged_heads : (m : Lodged V) (room : Id) (value : V) (links : Links) → get m (number_of room) ≡ None → bit_node_of links ≡ None
      → KeepsHeads m (put_room m room value links)
  lodged_heads m room value links free none = lodged_kept head_in m room value links free (ap head_part none)

  pub lodged_masks : (m : Lodged V) (room : Id) (value : V) (links : Links) → get m (number_of room) ≡ None → mask_node_of links ≡ None
      → KeepsMasks m (put_room m room value links)
  lodged_masks m room value links free none = lodged_kept mask_in m room value links free (ap (mask_part room.block) none)

  pub lodged_leaves : (m new : Lodged V) (room : Id) (value : V) (links : Links) (leaf : Leaf)
      → ((n : ℕ) → leaves_in new n ≡ put_leaf room leaf n (leaves_in (put_room m room value links) n))
      → (n : ℕ) → leaves_in new n ≡ lodge_leaf room value leaf n (leaves_in m n)
  lodged_leaves m new room value links leaf is n = is n ∙ elim (n == number_of room) as (λ t. leaves_in (put_room m room value links) n
      ≡ (if t then leaf_in (Some (seen room.block value links)) else leaf_in (get m n))
      → (if t then with_leaf leaf (leaves_in (put_room m room value links) n) else leaves_in (put_room m room value links) n)
      ≡ (if t then Some (record { block = room.block; value = value; leaf = leaf }) else leaves_in m n)) [
        | true ↦ λ e. ap (with_leaf leaf) e
        | false ↦ λ e. e
      ] (lodged_role leaf_in m room value links n)

  -- -------- a node with another bit node above it
  module _ {m : Lodged V} {p : Part m} {room : Id} (f : LeafAt p room) where
    abbrev pub part_at : LeafPart V
    part_at = leaf_part f.first p.above None (first_room f.rest)

    pub leaf_said : leaves_in m (number_of room) ≡ Some part_at
    leaf_said = grind arith

    pub Has-leaf_at : Has m room
    Has-leaf_at = Has-leaf m room leaf_said (ap (λ i. i.block) f.room_is)

    -- the leaf that is written is the old one beneath another bit node
    pub leaf_lifted : (links : Links) {l : Leaf} (above : Option Id) (n : ℕ) → AreLinks m room links → l ≡ leaf_of links
        → put_leaf room (record l { above = above }) n (leaves_in m n) ≡ (if n == (number_of room) then leaf_above above (leaves_in m n) else leaves_in m n)
    leaf_lifted links {l = l} above n are leaf = grind arith

  -- a bit node that is written is the old one, changed so
  pub node_changed : (m : Lodged V) {room : Id} {node : BitNode} (new : BitNode) (change : Option BitPart → Option BitPart) (n : ℕ) → IsBitNodeOf m room node
      → change (bit_part room.block (Some node)) ≡ bit_part room.block (Some new)
      → put_bit room (Some new) n (bits_in m n) ≡ (if n == (number_of room) then change (bits_in m n) else bits_in m n)
  node_changed m {room = room} new change n is same = grind arith

  -- and with its list it stays the head of that
  pub head_kept : (m : Lodged V) (room : Id) {node : BitNode} (new : BitNode) (n : ℕ) → IsBitNodeOf m room node → new.masks ≡ node.masks
      → put_head room (Some new) n (heads_in m n) ≡ heads_in m n
  head_kept m room new n is same = grind arith
