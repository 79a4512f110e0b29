use Rattle.std.proofs.Common.{◌==◌, ◌∙◌, ℕ, ap, sym}
use Rattle.std.proofs.Math.Nat.{zero-add}
use Rattle.std.specs.Int.{bit_at}
use Rattle.radix_nodes.specs.Flags.{has}
use Rattle.radix_nodes.proofs.FlagBits.{low_stays}
use Rattle.radix_nodes.proofs.flags.Flags.without_mask_node.Goals as goal

pub returns-clause-others : goal.returns-clause-others
unfolding has
returns-clause-others c k h = ap (λ (n : ℕ). bit_at n k == 1) (sym (zero-add _)) ∙ ap (λ (n : ℕ). n == 1) (low_stays 0 c.args.self.bits 8 k h)
