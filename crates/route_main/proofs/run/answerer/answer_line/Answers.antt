use Rattle.std.proofs.Common.{◌∙◌, ap, refl, sym, Ok, false, ◌||◌}
use Rattle.std.specs.Prelude.{option_copied}
use Rattle.event_file.specs.Transcript.{command_in}
use Rattle.route_main.specs.Progress.{held, standing}
use Rattle.route_main.proofs.ProgressLemmas.{Answers-line, StopsWithin-line, on_err}
use Rattle.route_main.proofs.run.answerer.answer_line.Goals as goal

pub returns-in_err-write_command_answer-clause-err : goal.returns-in_err-write_command_answer-clause-err
returns-in_err-write_command_answer-clause-err g c = on_err c.from_residual.result _ (λ has_bad.
    StopsWithin-line g.W.Write.contents c.args.writer.now c.write_command_answer.new.writer (standing (held c.args.world.now has_bad) c.args.memory.now)
    c.obey_counted-answer.new.memory (option_copied c.args.line) (Ok c.obey_counted-answer.result) c.obey_counted-answer.new.self
    (c.in-Some-read_said.said, ap command_in (ap option_copied c.in-Some.is) ∙ sym c.read_said.ensures ∙ c.in-Some-read_said.is, c.obey_counted-answer.ensures.step) c.in_err-write_command_answer.ensures.err)

pub returns-clause-ok : goal.returns-clause-ok
returns-clause-ok g c = λ has_bad.
    Answers-line g.W.Write.contents c.args.writer.now c.write_command_answer.new.writer
    (standing (held c.args.world.now has_bad) c.args.memory.now)
    (standing (held c.obey_counted-answer.new.self (has_bad || false)) c.obey_counted-answer.new.memory)
    (option_copied c.args.line) (Ok c.obey_counted-answer.result)
    (c.in-Some-read_said.said, ap command_in (ap option_copied c.in-Some.is) ∙ sym c.read_said.ensures ∙ c.in-Some-read_said.is, c.obey_counted-answer.ensures.step) c.in_ok-write_command_answer.ensures.ok refl
