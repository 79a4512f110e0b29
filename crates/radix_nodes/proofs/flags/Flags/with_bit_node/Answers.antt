use Rattle.std.proofs.Common.{◌==◌, ℕ, ap, arith}
use Rattle.radix_nodes.specs.Flags.{has}
use Rattle.radix_nodes.proofs.FlagBits.{high_stays}
use Rattle.radix_nodes.proofs.flags.Flags.with_bit_node.Goals as goal

pub returns-clause-others : goal.returns-clause-others
unfolding has
returns-clause-others c k h = ap (λ (n : ℕ). n == 1) (high_stays _ c.args.self.bits 5 k (grind arith) h)
