use Rattle.conv_main.proofs.LineParts.{first_byte}
use Rattle.conv_main.proofs.messages.space_in.Goals as goal

pub returns-clause-place : goal.returns-clause-place
returns-clause-place c = first_byte 32 c.args.rest.now c.memchr.result c.memchr.ensures
