use Rattle.std.proofs.Common.{◌-◌, bit_and, ap, ◌∙◌, arith}
use Rattle.std.proofs.lemmas.Nat.{one_shl, and_mask}
use Rattle.room_index.proofs.homes.low_bits.Goals as goal

pub returns : goal.returns
returns c = ap (λ n. bit_and c.args.number (n - 1)) (one_shl c.args.bits 64 (omega arith)) ∙ and_mask c.args.number c.args.bits
