use Rattle.std.proofs.Common.{refl, Err, true, ◌||◌}
use Rattle.route_main.specs.Progress.{held, standing}
use Rattle.route_main.proofs.ProgressLemmas.{Answers-line, StopsWithin-line, on_err}
use Rattle.route_main.proofs.run.answerer.answer_bad.Goals as goal

pub returns-clause-ok : goal.returns-clause-ok
returns-clause-ok g c = λ world has_bad refused line none.
    Answers-line g.W.Write.contents c.args.writer.now c.write_answer.new.writer (standing (held world has_bad) refused) (standing (held world (has_bad || true)) refused)
    line (Err (record {})) (none, refl, refl) c.in_ok-write_answer.ensures.ok refl

pub returns-in_err-write_answer-clause-err : goal.returns-in_err-write_answer-clause-err
returns-in_err-write_answer-clause-err g c = on_err c.from_residual.result _ (λ world has_bad refused line none.
    StopsWithin-line g.W.Write.contents c.args.writer.now c.write_answer.new.writer (standing (held world has_bad) refused) refused line (Err (record {})) world
    (none, refl, refl) c.in_err-write_answer.ensures.err)
