-- A route that is alone at its leaf goes from a tree, and with it the bit node above: what that has on its other side
-- takes its place.
use Rattle.std.specs.Prelude.{ℕ, ◌≡◌, ◌<◌, ◌≤◌, ◌⊎◌, ◌==◌, if◌then◌else◌, List, [], Option, None, Some, is_some, true}
use Rattle.radix_nodes.specs.declared.id.Id.{Id}
use Rattle.radix_nodes.specs.declared.links.Node.{Node}
use Rattle.radix_tree.specs.Tree.{Placed, Tree, leaf, fork, bit_at, IsIn}
use Rattle.radix_tree.specs.Rooms.{LeafPart, MaskPart, Part, leaves_in, heads_in, masks_in, Lodged, IsMarked, MarkedLists}
use Rattle.radix_tree.specs.Whole.{forks_at, HasHome}
use Rattle.radix_tree.specs.Searches.{Way}
use Rattle.radix_tree.specs.Growth.{AreOnce}
use Rattle.radix_nodes.specs.Naming.{number_of}

-- of a bit node's two nodes the one that is not on the side of a key
abbrev pub other_side : ℕ → ℕ → Node → Node → Node
other_side key bit zero one = if bit_at bit key == 1 then zero else one

module _ {V : Type 0} where
  -- a bit node with what is on the side of a key and what is on the other side
  pub record HasSides (key : ℕ) (t : Tree V) (room : Id) (bit : ℕ) (own other : Tree V) : Type 0 where
    pub is : ((t ≡ fork room bit own other) × (bit_at bit key ≡ 0))
        ⊎ ((t ≡ fork room bit other own) × (bit_at bit key ≡ 1))

  -- no bit node of the tree is in this room, nor in that of the bit node above it
  pub record IsApart (t : Tree V) (up : Id) (above : Option Id) : Type 0 where
    pub up_is : (n : ℕ) → 1 ≤ forks_at n t → n ≡ number_of up → ⊥
    pub above_is : (over : Id) → above ≡ Some over → (n : ℕ) → 1 ≤ forks_at n t → n ≡ number_of over → ⊥

  -- a room's route is alone at its leaf, and beneath a bit node
  abbrev pub IsLonely : Lodged V → Id → Type 0
  IsLonely m at = (p : LeafPart V) → leaves_in m (number_of at) ≡ Some p
      → (p.leaf.next ≡ None) × (p.leaf.previous ≡ None) × (is_some p.leaf.above ≡ true)

  -- a room's route is alone at its leaf, beneath this bit node
  pub record IsLone (m : Lodged V) (whole : Part m) (at up : Id) : Type 0 where
    pub route : Placed V
    pub room_is : route.room ≡ at
    pub over : Part m
    pub bit : ℕ
    pub other : Tree V
    pub sides : HasSides route.entry.key over.tree up bit (leaf route []) other
    pub ups : List (Part m)
    pub way : Way route.entry.key whole over ups
    pub top : whole.above ≡ None
    pub once : AreOnce whole.tree

  -- the list of the bit node that goes is with the other side, but for the masks that have no bit node at or past their
  -- rank any more, which are not listed
  pub record IsHanded (m new : Lodged V) (low : ℕ) (t other : Tree V) : Type 0 where
    pub heads : (n : ℕ) → forks_at n t ≡ 0 → heads_in new n ≡ heads_in m n
    pub masks : (n : ℕ) → ((y : Placed V) → IsIn y t → low ≤ y.entry.rank → number_of y.room ≡ n → ⊥)
        → masks_in new n ≡ masks_in m n
    pub marks : (n : ℕ) (p : MaskPart) → masks_in new n ≡ Some p → (q : MaskPart) × (masks_in m n ≡ Some q)
    pub kept : (y : Placed V) → IsIn y other → IsMarked (masks_in new) y → HasHome y.entry.key y.entry.rank t
        → (y.entry.rank < low) ⊎ HasHome y.entry.key y.entry.rank other
    pub all : (y : Placed V) → IsIn y other → HasHome y.entry.key y.entry.rank other
        → IsMarked (masks_in m) y → IsMarked (masks_in new) y
    pub lists : MarkedLists (heads_in new) (masks_in new) low other
