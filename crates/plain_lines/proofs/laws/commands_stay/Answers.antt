use Rattle.plain_lines.proofs.CommandsKept as kept
use Rattle.plain_lines.proofs.laws.commands_stay.Goals as goal

pub returns : goal.returns
returns c = kept.commands_stay
