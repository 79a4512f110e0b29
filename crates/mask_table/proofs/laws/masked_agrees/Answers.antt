use Rattle.mask_table.proofs.Agreeing.{masked_agrees}
use Rattle.mask_table.proofs.laws.masked_agrees.Goals as goal

pub returns : goal.returns
returns c = masked_agrees
