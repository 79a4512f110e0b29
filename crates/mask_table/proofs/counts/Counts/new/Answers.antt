use Rattle.std.proofs.Common.{ℕ, arith}
use Rattle.std.proofs.lemmas.List.{get_or-replicate}
use Rattle.mask_table.proofs.counts.Counts.new.Goals as goal

pub invariant_of-result : goal.invariant_of-result
invariant_of-result c rank fits = (λ has. absurd (c.none.ensures rank has), λ some. absurd (omega (arith, some, get_or-replicate {A = ℕ} 34 rank 0 0 (omega arith))))

pub returns : goal.returns
returns c rank fits = get_or-replicate 34 rank 0 0 (omega arith)
