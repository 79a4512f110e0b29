-- The name of a room: its block of memory, which gives it its number.
use Rattle.std.specs.Prelude.{ℕ, ◌+◌}
use denote.RawPtr.{Ptr, block_ptr, null_ptr}
use Rattle.radix_nodes.specs.declared.id.Id.{Id}

-- a room stands at the start of its block, and so the block alone says which room it is. No room has the number 0
abbrev pub number_at : Ptr → ℕ
number_at null_ptr = 0
number_at (block_ptr b o) = b + 1

-- a room's number
abbrev pub number_of : Id → ℕ
number_of room = number_at room.block
