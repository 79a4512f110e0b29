use Rattle.plain_lines.proofs.FlagsRead as read
use Rattle.plain_lines.proofs.laws.flags_are_read.Goals as goal

pub returns : goal.returns
returns c = read.flags_are_read
