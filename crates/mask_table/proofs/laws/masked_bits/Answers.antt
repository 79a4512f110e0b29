use Rattle.mask_table.proofs.Agreeing.{masked_bits}
use Rattle.mask_table.proofs.laws.masked_bits.Goals as goal

pub returns : goal.returns
returns c = masked_bits
