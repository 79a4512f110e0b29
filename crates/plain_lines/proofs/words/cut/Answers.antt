use Rattle.std.proofs.Common.{◌∙◌, sym}
use Rattle.plain_lines.proofs.Cutting.{parted_there, parted_nowhere}
use Rattle.plain_lines.proofs.words.cut.Goals as goal

pub returns-in_err-at-clause-last : goal.returns-in_err-at-clause-last
returns-in_err-at-clause-last c = rw c.from_residual.ensures (parted_nowhere c.args.byte c.args.text.now (sym c.in_err-at.was ∙ c.place_of.ensures))

pub returns-clause-first : goal.returns-clause-first
returns-clause-first c = parted_there c.args.byte c.in_ok-at.at c.args.text.now (sym c.in_ok-at.was ∙ c.place_of.ensures)
