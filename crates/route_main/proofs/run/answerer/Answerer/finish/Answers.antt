use Rattle.std.proofs.Common.{ap, sym, ◌∙◌}
use Rattle.route_main.specs.Progress.{Held}
use Rattle.route_main.proofs.ProgressLemmas.{Finishes-bad_line, Finishes-done, Finishes-write_fault, at_err, at_ok}
use Rattle.route_main.proofs.run.answerer.Answerer.finish.Goals as goal

pub returns-then-is_err-clause-ends : goal.returns-then-is_err-clause-ends
returns-then-is_err-clause-ends g c =
    Finishes-write_fault (at_err c.end.result _ (sym c.is_err.ensures.value ∙ c.if-is_err.true) c.end.ensures.err)

pub returns-then-self-clause-ends : goal.returns-then-self-clause-ends
returns-then-self-clause-ends g c =
    Finishes-bad_line (at_ok c.end.result _ (sym c.is_err.ensures.value ∙ c.if-is_err.false) c.end.ensures.ok)
    (sym (ap (λ (h : Held). h.has_bad) c.self.view_is) ∙ c.if-self.true)

pub returns-clause-ends : goal.returns-clause-ends
returns-clause-ends g c =
    Finishes-done (at_ok c.end.result _ (sym c.is_err.ensures.value ∙ c.if-is_err.false) c.end.ensures.ok)
    (sym (ap (λ (h : Held). h.has_bad) c.self.view_is) ∙ c.if-self.false)
