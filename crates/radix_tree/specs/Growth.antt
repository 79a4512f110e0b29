-- A route comes into a tree.
use Rattle.std.specs.Prelude.{◌≡◌, ℕ, ◌+◌, ◌<◌, ◌≤◌, ◌==◌, if◌then◌else◌, List, [], ◌∷◌, ◌++◌, Option, None, Some}
use Rattle.std.specs.FinMap.{get}
use Rattle.radix_nodes.specs.Rooms.{Rooms}
use Rattle.radix_nodes.specs.declared.id.Id.{Id}
use Rattle.radix_nodes.specs.declared.links.Node.{Node}
use Rattle.radix_nodes.specs.declared.links.Node.TheVariants.{Leaf as LeafOf, Bit as BitOf}
use Rattle.radix_tree.specs.Bounds.{last_bit}
use Rattle.radix_tree.specs.Tree.{Placed, Tree, leaf, fork, bit_at, HaveBit, IsTree}
use Rattle.radix_tree.specs.Rooms.{BitPart, Part, leaves_in, bits_in, leaf_part, name_of, Lodged}
use Rattle.radix_tree.specs.Searches.{Way, LedTo}
use Rattle.radix_tree.specs.Whole.{leaves_at, forks_at, IsWhole}
use Rattle.radix_tree.specs.Writes.{lift_leaf, lift_bit}
use Rattle.radix_tree.specs.declared.entry.Entry.{Entry}
use Rattle.radix_nodes.specs.Naming.{number_of}

-- what a bit node says once it names another node on the side of an address
abbrev pub with_child : ℕ → Node → Option BitPart → Option BitPart
with_child address to None = None
with_child address to (Some p) =
    Some (if bit_at p.bit address == 1 then record p { one = to } else record p { zero = to })

-- what number n says once the bit node above a place, where there is one, names another node there
abbrev pub name_child : Option Id → ℕ → Node → ℕ → Option BitPart → Option BitPart
name_child None address to n said = said
name_child (Some up) address to n said = if n == (number_of up) then with_child address to said else said

-- the root, once the place beneath this bit node, or beneath none, has another node
abbrev pub root_after : Option Id → Node → Node → Node
root_after None to root = to
root_after (Some up) to root = root

-- what number n says as the head of a list, once the room has this one
abbrev pub with_head : Id → Option Id → ℕ → Option Id → Option Id
with_head room first n said = if n == (number_of room) then first else said

-- the new bit node, with the new leaf on the side of its key
abbrev pub forked : ℕ → ℕ → Id → Node → Option Id → BitPart
forked key bit room below above = if bit_at bit key == 1
    then record { block = room.block; bit = bit; zero = below; one = LeafOf room; above = above }
    else record { block = room.block; bit = bit; zero = LeafOf room; one = below; above = above }

-- the first bit at which two keys differ
pub record Differs (key other bit : ℕ) : Type 0 where
  pub within : bit ≤ last_bit
  pub before : (c : ℕ) → c < bit → bit_at c key ≡ bit_at c other
  pub at : bit_at bit key ≡ bit_at bit other → ⊥

module _ {V : Type 0} where
  -- the list has one entry more
  pub record Gains (e : Entry V) (old new : List (Entry V)) : Type 0 where
    pub front : List (Entry V)
    pub back : List (Entry V)
    pub was : old ≡ front ++ back
    pub now : new ≡ front ++ e ∷ back

  -- a place for a route of a key that no route has: the first bit at which the key differs from those of the part
  -- beneath, whose bits are all past it
  pub record IsPlace (key low bit : ℕ) (t : Tree V) : Type 0 where
    pub rises : low ≤ bit
    pub within : bit ≤ last_bit
    pub is : IsTree (bit + 1) t
    pub agree : (c : ℕ) → c < bit → HaveBit c (bit_at c key) t
    pub far_one : bit_at bit key ≡ 0 → HaveBit bit 1 t
    pub far_zero : bit_at bit key ≡ 1 → HaveBit bit 0 t

  -- no route stands in a room
  pub record IsSpare (nodes : Rooms V) (room : ℕ) : Type 0 where
    pub free : get nodes.lodged room ≡ None

  -- the bits of a key lead to this leaf, which has the key
  abbrev pub HasKeyAt : Lodged V → Node → ℕ → Id → Type 0
  HasKeyAt m root key room = (w : IsWhole m root) × (d : LedTo key w.part room) × (d.leaf.first.entry.key ≡ key)

  -- or to this leaf, from whose key it differs, at this bit first
  abbrev pub DiffersAt : Lodged V → Node → ℕ → Id → ℕ → Type 0
  DiffersAt m root key room bit = (w : IsWhole m root) × (d : LedTo key w.part room)
      × Differs key d.leaf.first.entry.key bit

  -- no room is two leaves of the tree or two bit nodes
  pub record AreOnce (t : Tree V) : Type 0 where
    pub leaves : (n : ℕ) → leaves_at n t ≤ 1
    pub forks : (n : ℕ) → forks_at n t ≤ 1

  abbrev pub placed : Id → Entry V → Placed V
  placed room e = record { room = room; entry = e }

  -- the new bit node above a part, with the new leaf on the side of its key
  abbrev pub forked_tree : ℕ → Placed V → Tree V → Tree V
  forked_tree bit x t = if bit_at bit x.entry.key == 1
      then fork x.room bit t (leaf x []) else fork x.room bit (leaf x []) t

  -- where a route comes in: the part beneath the new bit node, and the way up from it
  pub record IsSpot (m : Lodged V) (key bit : ℕ) (whole : Part m) (above : Option Id)
      (below : Node) : Type 0 where
    pub at : Part m
    pub ups : List (Part m)
    pub way : Way key whole at ups
    pub top : whole.above ≡ None
    pub once : AreOnce whole.tree
    pub place : IsPlace key at.low bit at.tree
    pub above_is : at.above ≡ above
    pub named : name_of at.tree ≡ below

  -- a route stands in a room that was not in the map, which is its leaf and this bit node above that
  pub record IsLodged (m new : Lodged V) (room : Id) (e : Entry V) (node : BitPart) : Type 0 where
    pub no_leaf : leaves_in m (number_of room) ≡ None
    pub no_bit : bits_in m (number_of room) ≡ None
    pub leaf : leaves_in new (number_of room) ≡ Some (leaf_part (placed room e) (Some room) None None)
    pub bit_node : bits_in new (number_of room) ≡ Some node
    pub leaves : (n : ℕ) → (n ≡ number_of room → ⊥) → leaves_in new n ≡ leaves_in m n
    pub bits : (n : ℕ) → (n ≡ number_of room → ⊥) → bits_in new n ≡ bits_in m n

  -- what the rooms say once this route stands in a room of its own, beneath a new bit node in that room, which came
  -- between the bit node above a place and the node beneath it
  pub record IsBeside (m new : Lodged V) (bit : ℕ) (x : Placed V) (above : Option Id)
      (below : Node) : Type 0 where
    pub no_leaf : leaves_in m (number_of x.room) ≡ None
    pub no_bit : bits_in m (number_of x.room) ≡ None
    pub leaf : leaves_in new (number_of x.room) ≡ Some (leaf_part x (Some x.room) None None)
    pub bit_node : bits_in new (number_of x.room) ≡ Some (forked x.entry.key bit x.room below above)
    pub leaves : (n : ℕ) → (n ≡ number_of x.room → ⊥) → leaves_in new n ≡ lift_leaf below (Some x.room) n (leaves_in m n)
    pub bits : (n : ℕ) → (n ≡ number_of x.room → ⊥)
        → bits_in new n ≡ lift_bit below (Some x.room) n (name_child above x.entry.key (BitOf x.room) n (bits_in m n))

  -- a key that no route has: the leaf to which its bits lead, and the first bit at which it differs from that leaf's
  pub record IsNew (m : Lodged V) (key bit : ℕ) (leaf : Id) : Type 0 where
    pub whole : Part m
    pub led : LedTo key whole leaf
    pub top : whole.above ≡ None
    pub low : whole.low ≡ 0
    pub once : AreOnce whole.tree
    pub differs : Differs key led.leaf.first.entry.key bit
