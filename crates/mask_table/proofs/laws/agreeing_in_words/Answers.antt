use Rattle.mask_table.proofs.Agreeing.{agrees_in_words}
use Rattle.mask_table.proofs.laws.agreeing_in_words.Goals as goal

pub returns : goal.returns
returns c = agrees_in_words
