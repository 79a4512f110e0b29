-- The rooms that a tree stands in. A room is a leaf, can be a bit node besides, and can be a mask node: what the rooms
-- say is told for each of these roles by itself, so that a change of one leaves the others as they are.
use Rattle.std.specs.Prelude.{◌≡◌, ℕ, ◌+◌, ◌<◌, ◌≤◌, true, List, [], ◌∷◌, Option, None, Some, is_some}
use Rattle.std.specs.Ordering.{nat_cmp}
use Rattle.std.specs.FinMap.{FinMap, get}
use denote.RawPtr.{Ptr}
use Rattle.radix_nodes.specs.Rooms.{Seen}
use Rattle.radix_nodes.specs.Links.{leaf_of, bit_node_of, mask_node_of}
use Rattle.radix_nodes.specs.declared.id.Id.{Id}
use Rattle.radix_nodes.specs.declared.links.Node.{Node}
use Rattle.radix_nodes.specs.declared.links.Node.TheVariants.{Leaf as LeafOf, Bit as BitOf}
use Rattle.radix_nodes.specs.declared.links.Leaf.{Leaf}
use Rattle.radix_nodes.specs.declared.links.BitNode.{BitNode}
use Rattle.radix_nodes.specs.declared.links.MaskNode.{MaskNode}
use Rattle.radix_tree.specs.Tree.{Placed, Tree, leaf, fork, IsAmong, IsIn, IsChain, IsTree}
use Rattle.radix_nodes.specs.Naming.{number_of}

-- the lodged rooms by their numbers
abbrev pub Lodged : Type 0 → Type 0
Lodged V = FinMap nat_cmp (Seen V)

-- what a room says as a leaf, with its block
pub record LeafPart (V : Type 0) : Type 0 where
  pub block : Ptr
  pub value : V
  pub leaf : Leaf

-- what a room says as a bit node in use, but for its list of masks
pub record BitPart : Type 0 where
  pub block : Ptr
  pub bit : ℕ
  pub zero : Node
  pub one : Node
  pub above : Option Id

-- what a room says as a mask node that is listed
pub record MaskPart : Type 0 where
  pub block : Ptr
  pub next : Option Id

-- what each number's room says as a leaf, as a bit node, as the head of a list of masks, and as a mask node
abbrev pub Leaves : Type 0 → Type 0
Leaves V = ℕ → Option (LeafPart V)

abbrev pub Bits : Type 0
Bits = ℕ → Option BitPart

abbrev pub Heads : Type 0
Heads = ℕ → Option Id

abbrev pub Masks : Type 0
Masks = ℕ → Option MaskPart

abbrev pub bit_part : Ptr → Option BitNode → Option BitPart
bit_part block None = None
bit_part block (Some n) = Some (record { block = block; bit = n.bit; zero = n.zero; one = n.one; above = n.above })

abbrev pub head_part : Option BitNode → Option Id
head_part None = None
head_part (Some n) = n.masks

abbrev pub mask_part : Ptr → Option MaskNode → Option MaskPart
mask_part block None = None
mask_part block (Some n) = Some (record { block = block; next = n.next })

module _ {V : Type 0} where
  abbrev pub leaf_in : Option (Seen V) → Option (LeafPart V)
  leaf_in None = None
  leaf_in (Some s) = Some (record { block = s.block; value = s.value; leaf = leaf_of s.links })

  abbrev pub bit_in : Option (Seen V) → Option BitPart
  bit_in None = None
  bit_in (Some s) = bit_part s.block (bit_node_of s.links)

  abbrev pub head_in : Option (Seen V) → Option Id
  head_in None = None
  head_in (Some s) = head_part (bit_node_of s.links)

  abbrev pub mask_in : Option (Seen V) → Option MaskPart
  mask_in None = None
  mask_in (Some s) = mask_part s.block (mask_node_of s.links)

  abbrev pub leaves_in : Lodged V → Leaves V
  leaves_in m n = leaf_in (get m n)

  abbrev pub bits_in : Lodged V → Bits
  bits_in m n = bit_in (get m n)

  abbrev pub heads_in : Lodged V → Heads
  heads_in m n = head_in (get m n)

  abbrev pub masks_in : Lodged V → Masks
  masks_in m n = mask_in (get m n)

  -- ---- leaves and bit nodes
  abbrev pub first_room : List (Placed V) → Option Id
  first_room [] = None
  first_room (x ∷ xs) = Some x.room

  abbrev pub name_of : Tree V → Node
  name_of (leaf x xs) = LeafOf x.room
  name_of (fork room b zero one) = BitOf room

  abbrev pub leaf_part : Placed V → Option Id → Option Id → Option Id → LeafPart V
  leaf_part x above previous next = record {
    block = x.room.block;
    value = x.entry.value;
    leaf = record { key = x.entry.key; rank = x.entry.rank; above = above; next = next; previous = previous };
  }

  -- rooms stand for a chain: each member names the next one and the one before, and the first the bit node above
  abbrev pub ChainStands : Leaves V → Option Id → Option Id → List (Placed V) → Type 0
  ChainStands L above previous [] = Unit {0}
  ChainStands L above previous (x ∷ xs) =
      (L (number_of x.room) ≡ Some (leaf_part x above previous (first_room xs))) × ChainStands L None (Some x.room) xs

  -- rooms stand for a tree: each bit node names those beneath it and the one above
  abbrev pub Stands : Leaves V → Bits → Option Id → Tree V → Type 0
  Stands L B above (leaf x xs) = ChainStands L above None (x ∷ xs)
  Stands L B above (fork room b zero one) =
      (B (number_of room) ≡ Some (record {
        block = room.block;
        bit = b;
        zero = name_of zero;
        one = name_of one;
        above = above;
      }))
      × Stands L B (Some room) zero × Stands L B (Some room) one

  -- ---- masks
  -- rooms stand for a list of masks: each names the next one
  abbrev pub MasksStand : Masks → List (Placed V) → Type 0
  MasksStand K [] = Unit {0}
  MasksStand K (x ∷ xs) =
      (K (number_of x.room) ≡ Some (record { block = x.room.block; next = first_room xs })) × MasksStand K xs

  -- the ranks fall, from below a top down to low
  abbrev pub Falls : ℕ → ℕ → List (Placed V) → Type 0
  Falls low top [] = Unit {0}
  Falls low top (x ∷ xs) = (low ≤ x.entry.rank) × (x.entry.rank < top) × Falls low x.entry.rank xs

  -- a list of masks, longer ones first: of those of M whose ranks are at or past low and not past a bit
  pub record IsMaskList (K : Masks) (first : Option Id) (low b : ℕ) (M : Placed V → Type 0) : Type 0 where
    pub masks : List (Placed V)
    pub begins : first_room masks ≡ first
    pub stands : MasksStand K masks
    pub falls : Falls low (b + 1) masks
    pub has : (x : Placed V) → M x → low ≤ x.entry.rank → x.entry.rank ≤ b → IsAmong x masks
    pub within : (x : Placed V) → IsAmong x masks → M x

  -- each bit node beneath those of bits before low lists the routes of M beneath it whose ranks are at or past low and
  -- not past its bit, which are those that have no such node further up
  abbrev pub Lists : (Placed V → Type 0) → Heads → Masks → ℕ → Tree V → Type 0
  Lists M H K low (leaf x xs) = Unit {0}
  Lists M H K low (fork room b zero one) =
      IsMaskList K (H (number_of room)) low b (λ x. IsIn x (fork room b zero one) × M x)
      × Lists M H K (b + 1) zero × Lists M H K (b + 1) one

  -- the route's mask is listed somewhere
  abbrev pub IsMarked : Masks → Placed V → Type 0
  IsMarked K x = is_some (K (number_of x.room)) ≡ true

  -- the routes of a tree whose masks are listed somewhere
  abbrev pub MarkedIn : Masks → Tree V → Placed V → Type 0
  MarkedIn K t x = IsIn x t × IsMarked K x

  -- the masks that are listed are where they belong
  abbrev pub MarkedLists : Heads → Masks → ℕ → Tree V → Type 0
  MarkedLists H K low t = Lists (IsMarked K) H K low t

  -- ---- a tree, or a part of one, in the rooms of a map
  pub record Part (m : Lodged V) : Type 0 where
    pub tree : Tree V
    pub low : ℕ
    pub above : Option Id
    pub is : IsTree low tree
    pub stands : Stands (leaves_in m) (bits_in m) above tree

  -- the rooms list the masks of all routes of a part
  abbrev pub AreListed : (m : Lodged V) → Part m → Type 0
  AreListed m p = Lists (λ x. Unit {0}) (heads_in m) (masks_in m) p.low p.tree

  -- part of a chain
  pub record Run (m : Lodged V) : Type 0 where
    pub members : List (Placed V)
    pub key : ℕ
    pub top : ℕ
    pub above : Option Id
    pub previous : Option Id
    pub is : IsChain key top members
    pub stands : ChainStands (leaves_in m) above previous members
