-- What the rooms say once one of them has other links.
use Rattle.std.specs.Prelude.{◌≡◌, ℕ, ◌==◌, if◌then◌else◌, Option, None, Some}
use Rattle.radix_nodes.specs.declared.id.Id.{Id}
use Rattle.radix_nodes.specs.declared.links.Leaf.{Leaf}
use Rattle.radix_nodes.specs.declared.links.BitNode.{BitNode}
use Rattle.radix_nodes.specs.declared.links.MaskNode.{MaskNode}
use Rattle.radix_nodes.specs.declared.links.Node.{Node}
use Rattle.radix_nodes.specs.declared.links.Node.TheVariants.{Leaf as LeafOf, Bit as BitOf}
use Rattle.radix_tree.specs.Rooms.{LeafPart, BitPart, MaskPart, leaves_in, bits_in, heads_in, masks_in, bit_part, head_part, mask_part, Lodged}
use Rattle.radix_nodes.specs.Naming.{number_of}

-- what number n says once the room is this bit node, or none
abbrev pub put_bit : Id → Option BitNode → ℕ → Option BitPart → Option BitPart
put_bit room node n said = if n == (number_of room) then bit_part room.block node else said

abbrev pub put_head : Id → Option BitNode → ℕ → Option Id → Option Id
put_head room node n said = if n == (number_of room) then head_part node else said

abbrev pub put_mask : Id → Option MaskNode → ℕ → Option MaskPart → Option MaskPart
put_mask room node n said = if n == (number_of room) then mask_part room.block node else said

module _ {V : Type 0} where
  abbrev pub with_leaf : Leaf → Option (LeafPart V) → Option (LeafPart V)
  with_leaf leaf None = None
  with_leaf leaf (Some p) = Some (record p { leaf = leaf })

  -- what number n says once the room is this leaf
  abbrev pub put_leaf : Id → Leaf → ℕ → Option (LeafPart V) → Option (LeafPart V)
  put_leaf room leaf n said = if n == (number_of room) then with_leaf leaf said else said

  -- what number n says once a value is lodged in the room, which is this leaf
  abbrev pub lodge_leaf : Id → V → Leaf → ℕ → Option (LeafPart V) → Option (LeafPart V)
  lodge_leaf room value leaf n said = if n == (number_of room)
      then Some (record { block = room.block; value = value; leaf = leaf }) else said

  -- ---- roles that stay
  abbrev pub KeepsLeaves : Lodged V → Lodged V → Type 0
  KeepsLeaves old new = (n : ℕ) → leaves_in new n ≡ leaves_in old n

  abbrev pub KeepsBits : Lodged V → Lodged V → Type 0
  KeepsBits old new = (n : ℕ) → bits_in new n ≡ bits_in old n

  abbrev pub KeepsHeads : Lodged V → Lodged V → Type 0
  KeepsHeads old new = (n : ℕ) → heads_in new n ≡ heads_in old n

  abbrev pub KeepsMasks : Lodged V → Lodged V → Type 0
  KeepsMasks old new = (n : ℕ) → masks_in new n ≡ masks_in old n

-- rooms change as leaves alone, as bit nodes alone but for their lists, or in their lists of masks alone
pub record OnlyLeaves {V : Type 0} (old new : Lodged V) : Type 0 where
  pub bits : KeepsBits old new
  pub heads : KeepsHeads old new
  pub masks : KeepsMasks old new

pub record OnlyBits {V : Type 0} (old new : Lodged V) : Type 0 where
  pub leaves : KeepsLeaves old new
  pub heads : KeepsHeads old new
  pub masks : KeepsMasks old new

pub record KeepsTree {V : Type 0} (old new : Lodged V) : Type 0 where
  pub leaves : KeepsLeaves old new
  pub bits : KeepsBits old new

-- what number n says once the node of this name has another bit node above it, or none
abbrev pub bit_above : Option Id → Option BitPart → Option BitPart
bit_above above None = None
bit_above above (Some p) = Some (record p { above = above })

abbrev pub lift_bit : Node → Option Id → ℕ → Option BitPart → Option BitPart
lift_bit (LeafOf room) above n said = said
lift_bit (BitOf room) above n said = if n == (number_of room) then bit_above above said else said

module _ {V : Type 0} where
  abbrev pub leaf_above : Option Id → Option (LeafPart V) → Option (LeafPart V)
  leaf_above above None = None
  leaf_above above (Some p) = Some (record p { leaf = record p.leaf { above = above } })

  abbrev pub lift_leaf : Node → Option Id → ℕ → Option (LeafPart V) → Option (LeafPart V)
  lift_leaf (LeafOf room) above n said = if n == (number_of room) then leaf_above above said else said
  lift_leaf (BitOf room) above n said = said
