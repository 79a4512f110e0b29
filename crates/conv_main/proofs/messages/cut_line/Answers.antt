use Rattle.std.proofs.Common.{Some, None, ◌∙◌, sym}
use Rattle.std.proofs.Math.Seq.{take-length}
use Rattle.event_file.proofs.LineLemmas.{newline_at}
use Rattle.conv_main.proofs.messages.cut_line.Goals as goal

pub returns-in-Some-clause-line : goal.returns-in-Some-clause-line
returns-in-Some-clause-line c =
    let found = newline_at c.args.piece.now (Some c.in-Some.at) c.in-Some.ensures.place in
    c.split_at.ensures.front ∙ sym (found.2)

pub returns-in-None-clause-line : goal.returns-in-None-clause-line
returns-in-None-clause-line c =
    let found = newline_at c.args.piece.now None c.in-None.ensures.place in
    c.split_at-in-None.ensures.front ∙ take-length c.args.piece.now ∙ sym (found.1)
