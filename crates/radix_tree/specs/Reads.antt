-- What is read of rooms, and how counters of visits go on.
use Rattle.std.specs.Prelude.{◌≡◌, ◌+◌, Some}
use Rattle.radix_nodes.specs.Counting.{Counter}
pub use Rattle.room_index.specs.Looks.{Reads}
use Rattle.radix_nodes.specs.Rooms.{Rooms}
use Rattle.radix_nodes.specs.declared.id.Id.{Id}
use Rattle.radix_nodes.specs.declared.links.BitNode.{BitNode}
use Rattle.radix_tree.specs.Rooms.{bit_part, bits_in, heads_in, Lodged}
use Rattle.radix_nodes.specs.Naming.{number_of}

-- by one visit
pub record ReadsOnce (old new : Counter) : Type 0 where
  pub turn : new.turn ≡ old.turn
  pub count : new.count ≡ old.count + 1

-- the room is this bit node in use
pub record IsBitNodeOf {V : Type 0} (m : Lodged V) (room : Id) (node : BitNode) : Type 0 where
  pub said : bits_in m (number_of room) ≡ bit_part room.block (Some node)
  pub head : heads_in m (number_of room) ≡ node.masks

-- the map begins no turn, nor does the counter change its own
pub record Stays {V : Type 0} (old new : Rooms V) (before after : Counter) : Type 0 where
  pub turn : new.turn ≡ old.turn
  pub counter : after.turn ≡ before.turn
