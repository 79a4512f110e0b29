-- What a handle owns: the session at its address and the right to free the block, or nothing, at null.
use Rattle.std.specs.Prelude.{Option, Some, None}
use base.Fml.{Fml, feq}
use mir.Syntax.{Ty}
use denote.RattleType.{RattleType}
use denote.RawPtr.{Ptr, null_ptr}
use Rattle.std_alloc.specs.Box.Ownership.{box_owns}
use Rattle.std_heap.specs.contracts.GlobalAllocator.TheImpl.{ghosts}
use Rattle.hoiskend.specs.Sessions.{Session}
use Rattle.hoiskend.specs.contracts.held.Held.{the_row}

-- what the allocator of the process asks for, whichever handle to it frees the block
abbrev pub chunk : Ty → Ptr → Fml
chunk τ p = ghosts.dealloc_token (record { memory = record { seal = record {} } }) τ p

-- the value x at p, and the right to free its block
abbrev pub one_owns : (R : RattleType) → Ptr → R.Denot → Fml
one_owns R p x = box_owns (λ τ q. chunk τ q) R p x

abbrev pub may_own : Ptr → Option Session → Fml
may_own p None = feq Ptr p null_ptr
may_own p (Some w) = one_owns the_row p w
