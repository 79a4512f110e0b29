-- The right to free a block of the process's memory.
use base.Fml.{Fml}
use mir.Syntax.{Ty}
use denote.RawPtr.{Ptr}
use Rattle.std_heap.specs.contracts.GlobalAllocator.TheImpl.{ghosts}

-- what the allocator of the process asks for, whichever handle to it frees the block
abbrev pub chunk : Ty → Ptr → Fml
chunk τ p = ghosts.dealloc_token (record { memory = record { seal = record {} } }) τ p
