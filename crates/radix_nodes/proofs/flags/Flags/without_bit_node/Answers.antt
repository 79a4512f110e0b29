use Rattle.std.proofs.Common.{◌==◌, ◌∙◌, ℕ, ap, sym, arith}
use Rattle.std.proofs.Math.Nat.{add-zero}
use Rattle.std.specs.Int.{bit_at}
use Rattle.radix_nodes.specs.Flags.{has}
use Rattle.radix_nodes.proofs.FlagBits.{high_stays}
use Rattle.radix_nodes.proofs.flags.Flags.without_bit_node.Goals as goal

pub returns-clause-others : goal.returns-clause-others
unfolding has
returns-clause-others c k h = ap (λ (n : ℕ). bit_at n k == 1) (sym (add-zero _)) ∙ ap (λ (n : ℕ). n == 1) (high_stays 0 c.args.self.bits 5 k (omega arith) h)
