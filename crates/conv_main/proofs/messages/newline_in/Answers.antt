use Rattle.conv_main.proofs.LineParts.{first_byte}
use Rattle.conv_main.proofs.messages.newline_in.Goals as goal

pub returns-clause-place : goal.returns-clause-place
returns-clause-place c = first_byte 10 c.args.bytes.now c.memchr.result c.memchr.ensures
