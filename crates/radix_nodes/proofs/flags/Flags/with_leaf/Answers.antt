use Rattle.std.proofs.Common.{◌<◌, ◌==◌, ◌∙◌, ℕ, ap, arith}
use Rattle.std.proofs.lemmas.Nat.Bits.{bit_at_cat_low}
use Rattle.radix_nodes.specs.Flags.{has}
use Rattle.radix_nodes.proofs.FlagBits.{low_stays, high_stays}
use Rattle.radix_nodes.proofs.flags.Flags.with_leaf.Goals as goal

pub returns-clause-bit_node : goal.returns-clause-bit_node
unfolding has
returns-clause-bit_node c k h =
    let below : k < 8 = omega arith in
    ap (λ (n : ℕ). n == 1) (bit_at_cat_low _ 8 _ k below ∙ low_stays _ c.args.self.bits 5 k h)

pub returns-clause-mask_node : goal.returns-clause-mask_node
unfolding has
returns-clause-mask_node c k h = ap (λ (n : ℕ). n == 1) (high_stays _ c.args.self.bits 8 k (grind arith) h)
