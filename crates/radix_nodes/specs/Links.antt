-- What a room's links say: what it is as a leaf, as a bit node and as a mask node.
use Rattle.std.specs.Prelude.{◌≡◌, Bool, true, false, Option, Some, None}
use Rattle.radix_nodes.specs.declared.flags.TheConstants.{IS_BIT_NODE, ZERO_IS_LEAF, ONE_IS_LEAF, HAS_BIT_ABOVE, HAS_MASKS}
use Rattle.radix_nodes.specs.declared.flags.TheConstants.{HAS_ABOVE, HAS_NEXT, HAS_PREVIOUS, IS_MASK_NODE, HAS_NEXT_MASK}
use Rattle.radix_nodes.specs.declared.id.Id.{Id}
use Rattle.radix_nodes.specs.declared.links.Node.{Node}
use Rattle.radix_nodes.specs.declared.links.Node.TheVariants.{Leaf as LeafOf, Bit as BitOf}
use Rattle.radix_nodes.specs.declared.links.Leaf.{Leaf}
use Rattle.radix_nodes.specs.declared.links.BitNode.{BitNode}
use Rattle.radix_nodes.specs.declared.links.MaskNode.{MaskNode}
use Rattle.radix_nodes.specs.declared.links.Links.{Links}
use Rattle.radix_nodes.specs.Flags.{has}

-- a name that is kept as there or not
abbrev pub id_in : Bool → Id → Option Id
id_in true id = Some id
id_in false id = None

-- a node that is kept as a leaf or not
abbrev pub node_in : Bool → Id → Node
node_in true id = LeafOf id
node_in false id = BitOf id

abbrev pub leaf_of : Links → Leaf
leaf_of l = record {
  key = l.key;
  rank = l.rank;
  above = id_in (has l.flags HAS_ABOVE) l.above;
  next = id_in (has l.flags HAS_NEXT) l.next;
  previous = id_in (has l.flags HAS_PREVIOUS) l.previous;
}

-- where it is in use
abbrev kept_bit_node : Bool → BitNode → Option BitNode
kept_bit_node true node = Some node
kept_bit_node false node = None

abbrev pub bit_node_of : Links → Option BitNode
bit_node_of l = kept_bit_node (has l.flags IS_BIT_NODE) (record {
  bit = l.bit;
  zero = node_in (has l.flags ZERO_IS_LEAF) l.zero;
  one = node_in (has l.flags ONE_IS_LEAF) l.one;
  above = id_in (has l.flags HAS_BIT_ABOVE) l.bit_above;
  masks = id_in (has l.flags HAS_MASKS) l.masks;
})

-- where it is listed
abbrev kept_mask_node : Bool → MaskNode → Option MaskNode
kept_mask_node true node = Some node
kept_mask_node false node = None

abbrev pub mask_node_of : Links → Option MaskNode
mask_node_of l =
    kept_mask_node (has l.flags IS_MASK_NODE) (record { next = id_in (has l.flags HAS_NEXT_MASK) l.next_mask })

-- the links of a room that has just been lodged: a leaf by itself, which is no bit node and no mask node
pub record IsBlank (l : Links) : Type 0 where
  pub leaf : leaf_of l ≡ record { key = 0; rank = 0; above = None; next = None; previous = None }
  pub bit_node : bit_node_of l ≡ None
  pub mask_node : mask_node_of l ≡ None
