use Rattle.world_words.proofs.BestFirst.{first_is_best}
use Rattle.world_words.proofs.laws.first_is_best.Goals as goal

pub returns : goal.returns
returns c = first_is_best
