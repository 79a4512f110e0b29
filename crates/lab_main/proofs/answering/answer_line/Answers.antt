use Rattle.std.proofs.Common.{rules}
use Rattle.lab_main.proofs.Commanding.{command_answered, on_ok}
use Rattle.lab_main.proofs.answering.answer_line.Goals as goal

pub returns-clause-answers : goal.returns-clause-answers
returns-clause-answers c = on_ok c.answer_command.result
    (command_answered c.args.machine.now.world c.args.line.now c.answer_command.new.body c.answer_command.new.machine.world c.args.machine.now.refused
    c.answer_command.new.machine.refused
    (search rules) (search rules)) (search rules)
