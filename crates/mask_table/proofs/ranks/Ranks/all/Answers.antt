use Rattle.std.proofs.Common.{◌-◌, ◌^◌, arith}
use Rattle.std.proofs.lemmas.Nat.Bits.{bit_at_above, bit_at_ones}
use Rattle.mask_table.proofs.ranks.Ranks.all.Goals as goal

pub invariant_of-result : goal.invariant_of-result
invariant_of-result c i past = bit_at_above (2 ^ 34 - 1) 34 i (omega arith) (omega arith)

pub returns : goal.returns
returns c r fits = (fits, bit_at_ones 34 (33 - r) (omega arith))
