use Rattle.std.proofs.Common.{◌+◌, ap, ◌∙◌, sym, Some, None}
use Rattle.event_file.specs.Lines.{has_newline}
use Rattle.event_file.proofs.Fronts.{rest_is}
use Rattle.event_file.proofs.LineLemmas.{first_line-no_newline, newline_at}
use Rattle.show_main.proofs.ShownLemmas.{parted_at}
use Rattle.show_main.proofs.lines.cut_line.Goals as goal

pub returns-in_err-at-clause-none : goal.returns-in_err-at-clause-none
returns-in_err-at-clause-none c =
    let found = newline_at c.args.bytes.now None c.in_err-at.ensures in
    rw c.from_residual.ensures found.0

pub returns-clause-whole : goal.returns-clause-whole
returns-clause-whole c =
    let found = newline_at c.args.bytes.now (Some c.in_ok-at.at) c.in_ok-at.ensures in
    rw (rest_is (c.in_ok-at.at + 1) c.args.bytes.now) (parted_at c.args.bytes.now c.in_ok-at.at found.0 found.1 found.2)

pub returns-clause-first : goal.returns-clause-first
returns-clause-first c =
    let found = newline_at c.args.bytes.now (Some c.in_ok-at.at) c.in_ok-at.ensures in
    ap has_newline (sym found.2) ∙ first_line-no_newline c.args.bytes.now
