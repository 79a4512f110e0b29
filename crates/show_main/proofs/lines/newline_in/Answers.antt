use Rattle.show_main.proofs.LineParts.{first_newline}
use Rattle.show_main.proofs.lines.newline_in.Goals as goal

pub returns : goal.returns
returns c = first_newline c.args.bytes.now c.memchr.result c.memchr.ensures
