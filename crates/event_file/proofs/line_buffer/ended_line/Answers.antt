use Rattle.std.proofs.Common.{sym, Some, None}
use Rattle.event_file.proofs.LineLemmas.{newline_at}
use Rattle.event_file.proofs.line_buffer.ended_line.Goals as goal

pub returns-in-Some-clause-newline : goal.returns-in-Some-clause-newline
returns-in-Some-clause-newline c = (newline_at c.args.bytes.now (Some c.in-Some.at) c.in-Some.ensures).1

pub returns-in-Some-clause-line : goal.returns-in-Some-clause-line
returns-in-Some-clause-line c = sym (newline_at c.args.bytes.now (Some c.in-Some.at) c.in-Some.ensures).2

pub returns-in-None-clause-none : goal.returns-in-None-clause-none
returns-in-None-clause-none c = (newline_at c.args.bytes.now None c.in-None.ensures).0
