use Rattle.mask_table.proofs.Agreeing.{agrees_where_masked_equal}
use Rattle.mask_table.proofs.laws.agrees_where_masked_equal.Goals as goal

pub returns : goal.returns
returns c = agrees_where_masked_equal
