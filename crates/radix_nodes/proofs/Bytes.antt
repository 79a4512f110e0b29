-- A room has more than zero bytes, whatever its value.
use Rattle.std.proofs.Common.{ℕ, ◌+◌, ◌<◌, max, arith}
use prog.Memory.{size, align, pad, up}
use denote.RattleType.{RattleType}
use denote.Memory.{lone}
use denote.Param.{param}
use Rattle.core.specs.Mem.{type_size}
use Rattle.radix_nodes.specs.contracts.room.Full as full

-- what has some bytes at its end, whatever stands before them
ends : (n s k : ℕ) → 0 < s → 0 < up k (n + s)
ends n s k some = let has : 0 < (n + s) + pad k (n + s) = omega (arith, some) in has

-- behind the value and the links two names of 8 bytes each
pub has_bytes : (V : RattleType) → 0 < type_size (full.the_row (param 0 V))
has_bytes V =
    let value = up (align (lone V.mir)) 0 + size (lone V.mir) in
    ends (up 8 (up 8 (up 8 value + 72) + 8)) 8 (max (align (lone V.mir)) (max 8 (max 8 (max 8 1)))) (omega arith)
