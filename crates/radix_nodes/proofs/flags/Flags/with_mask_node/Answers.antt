use Rattle.std.proofs.Common.{◌==◌, ℕ, ap}
use Rattle.radix_nodes.specs.Flags.{has}
use Rattle.radix_nodes.proofs.FlagBits.{low_stays}
use Rattle.radix_nodes.proofs.flags.Flags.with_mask_node.Goals as goal

pub returns-clause-others : goal.returns-clause-others
unfolding has
returns-clause-others c k h = ap (λ (n : ℕ). n == 1) (low_stays _ c.args.self.bits 8 k h)
