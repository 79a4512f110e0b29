-- A route goes out of a tree, and a bit node in use moves from its room to another.
use Rattle.std.specs.Prelude.{◌≡◌, ℕ, ◌==◌, if◌then◌else◌, ◌⊎◌, true, Option, None, Some}
use denote.RawPtr.{Ptr}
use Rattle.radix_nodes.specs.Rooms.{Has}
use Rattle.radix_nodes.specs.declared.id.Id.{Id}
use Rattle.radix_nodes.specs.declared.links.Node.{Node}
use Rattle.radix_nodes.specs.declared.links.Node.TheVariants.{Leaf as LeafOf, Bit as BitOf}
use Rattle.radix_tree.specs.Rooms.{LeafPart, BitPart, leaves_in, bits_in, masks_in, Lodged}
use Rattle.radix_tree.specs.Whole.{shown, shown_entry, IsWholeBut, nobody_late, nobody_out}
use Rattle.radix_tree.specs.Growth.{Gains}
use Rattle.radix_tree.specs.Marks.{has_key, late_at, out_at}
use Rattle.radix_tree.specs.declared.entry.Entry.{Entry}
use Rattle.radix_nodes.specs.Naming.{number_of}

-- a name, once the bit node of one room is in another room
abbrev pub renamed : Id → Id → Node → Node
renamed from to (LeafOf room) = LeafOf room
renamed from to (BitOf room) = if (number_of room) == (number_of from) then BitOf to else BitOf room

-- what a bit node says once those beneath it have the new names
abbrev pub with_renamed : Id → Id → Option BitPart → Option BitPart
with_renamed from to None = None
with_renamed from to (Some p) = Some (record p { zero = renamed from to p.zero; one = renamed from to p.one })

-- what number n says once the bit node above, where there is one, says the new names
abbrev pub rename : Option Id → Id → Id → ℕ → Option BitPart → Option BitPart
rename None from to n said = said
rename (Some up) from to n said = if n == (number_of up) then with_renamed from to said else said

-- of a chain's member the next one, or else the one before
abbrev pub member_beside : Option Id → Option Id → Option Id
member_beside None previous = previous
member_beside (Some next) previous = Some next

-- what a room has, whatever its links: a block, and a route
pub record Content (V : Type 0) : Type 0 where
  pub block : Ptr
  pub entry : Entry V

module _ {V : Type 0} where
  abbrev pub content_of : Option (LeafPart V) → Option (Content V)
  content_of None = None
  content_of (Some p) = Some (record { block = p.block; entry = shown_entry p })

  -- the table shows its routes but that of a room
  abbrev pub LosesRoute : Lodged V → Lodged V → Id → Node → Option Node → Type 0
  LosesRoute old new room root name = (p : LeafPart V) → leaves_in old (number_of room) ≡ Some p
      → Gains (shown_entry p) (shown new name) (shown old (Some root))

  -- each room has the route that it had
  abbrev pub KeepsRoutes : Lodged V → Lodged V → Type 0
  KeepsRoutes old new = (n : ℕ) → content_of (leaves_in new n) ≡ content_of (leaves_in old n)

  -- a route of the tree, by its room, whose mask is not listed
  pub record IsUnlisted (m : Lodged V) (root : Node) (at : Id) : Type 0 where
    pub whole : IsWholeBut m root (late_at (number_of at)) nobody_out
    pub unmarked : masks_in m (number_of at) ≡ None
    pub there : Has m at

  -- it is out of the tree, and its room still in the map
  pub record TakesOut (old new : Lodged V) (at : Id) (root to : Node) : Type 0 where
    pub whole : IsWholeBut new to nobody_late (out_at (number_of at))
    pub routes : LosesRoute old new at root (Some to)
    pub rooms : KeepsRoutes old new
    pub own : leaves_in new (number_of at) ≡ leaves_in old (number_of at)

  -- a bit node in use in the one room can move to the other: no room of that one's key has one, but for the first
  pub record CanTake (m : Lodged V) (from to : Id) : Type 0 where
    pub free : bits_in m (number_of to) ≡ None
    pub idle : (p : LeafPart V) → leaves_in m (number_of to) ≡ Some p
        → (n : ℕ) → has_key m p.leaf.key n ≡ true → (n ≡ number_of from → ⊥) → bits_in m n ≡ None

  -- the bit nodes beneath a bit node are in the map
  abbrev pub HasNodesBeneath : Lodged V → Id → Type 0
  HasNodesBeneath m up = (p : BitPart) → bits_in m (number_of up) ≡ Some p → (room : Id)
      → (p.zero ≡ BitOf room) ⊎ (p.one ≡ BitOf room) → Has m room

  -- a room is out of the tree: it is neither a leaf of it nor a bit node, or it was the last room
  abbrev pub IsOut : Lodged V → Option Node → ℕ → Type 0
  IsOut m None room = (n : ℕ) → (n ≡ room → ⊥) → leaves_in m n ≡ None
  IsOut m (Some root) room = IsWholeBut m root nobody_late (out_at room) × (bits_in m room ≡ None)
