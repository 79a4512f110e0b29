use Rattle.lab_main.proofs.Rewording.{reworded}
use Rattle.lab_main.proofs.laws.told_in_words.Goals as goal

pub returns : goal.returns
returns c = reworded
