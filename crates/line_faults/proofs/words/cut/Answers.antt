use Rattle.std.proofs.Common.{◌∙◌, sym}
use Rattle.event_file.proofs.Cutting.{parted_there, parted_nowhere}
use Rattle.line_faults.proofs.Cuts.{none_before, none_at_all}
use Rattle.line_faults.proofs.words.cut.Goals as goal

pub returns-in_err-at-clause-last : goal.returns-in_err-at-clause-last
returns-in_err-at-clause-last c = rw c.from_residual.ensures (parted_nowhere 32 c.args.text.now (sym c.in_err-at.was ∙ c.space_in.ensures))

pub returns-in_err-at-clause-whole : goal.returns-in_err-at-clause-whole
returns-in_err-at-clause-whole c = rw c.from_residual.ensures (none_at_all c.args.text.now (sym c.in_err-at.was ∙ c.space_in.ensures))

pub returns-clause-first : goal.returns-clause-first
returns-clause-first c = parted_there 32 c.in_ok-at.at c.args.text.now (sym c.in_ok-at.was ∙ c.space_in.ensures)

pub returns-clause-word : goal.returns-clause-word
returns-clause-word c = none_before c.in_ok-at.at c.args.text.now (sym c.in_ok-at.was ∙ c.space_in.ensures)
