use Rattle.plain_lines.proofs.PlainTwice as twice
use Rattle.plain_lines.proofs.laws.plain_lines_stay.Goals as goal

pub returns : goal.returns
returns c = twice.plain_lines_stay
