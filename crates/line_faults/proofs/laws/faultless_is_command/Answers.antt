use Rattle.line_faults.proofs.Grammatical.{line_says}
use Rattle.line_faults.proofs.laws.faultless_is_command.Goals as goal

pub returns : goal.returns
returns c = line_says
