-- What a room of the row names beside it.
use Rattle.std.specs.Prelude.{◌≡◌, Option, Some, None}
use denote.RawPtr.{Ptr, block_ptr, null_ptr}
use Rattle.radix_nodes.specs.At.{IsStart}
use Rattle.radix_nodes.specs.declared.id.Id.{Id}

-- the room that stands here, where one does
abbrev pub named_at : Ptr → Option Id
named_at null_ptr = None
named_at (block_ptr b o) = Some (record { block = block_ptr b o })

-- a name that is there is of a room at the start of a block
abbrev pub IsRoom : Option Id → Type 0
IsRoom name = (room : Id) → name ≡ Some room → IsStart room.block
