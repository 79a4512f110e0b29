use Rattle.mask_table.proofs.Agreeing.{agrees_at_smaller_ranks}
use Rattle.mask_table.proofs.laws.agrees_at_smaller_ranks.Goals as goal

pub returns : goal.returns
returns c = agrees_at_smaller_ranks
