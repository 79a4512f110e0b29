use Rattle.std.proofs.Common.{◌∙◌, ◌++◌, ◌∷◌, [], ap, rules}
use Rattle.std.specs.Prelude.{if◌then◌else◌}
use Rattle.event_file.specs.Counts.{one_more}
use Rattle.lab_main.specs.Telling.{is_bad}
use Rattle.lab_main.proofs.Commanding.{answers_as}
use Rattle.lab_main.proofs.Turning.{bad_taken, lines_taken, over_taken, refused_stays, world_stays}
use Rattle.lab_main.proofs.lab.Lab.tell.Goals as goal

pub returns-clause-told : goal.returns-clause-told
returns-clause-told c =
    let turn = c.in_ok-turn.turn in
    let new = c.take.new.self in
    let took = c.in_ok-take.ensures.took in
    let line = c.args.line.now in
    record {
      goes_on = c.requires.goes_on;
      body = c.answer_line.new.body;
      answers = answers_as line c.answer_line.new.body c.self.inside.machine.world c.answer_line.new.machine.world c.args.self.now.world new.world c.self.inside.machine.refused
          c.args.self.now.refused c.answer_line.new.machine.refused new.refused (search rules) (world_stays turn _ new took) (search rules) (refused_stays turn _ new took) c.in_ok-turn.ensures.answers;
      text_is = search rules;
      lines_are = lines_taken turn _ new took ∙ ap one_more (search rules);
      bad_are = bad_taken turn line _ new (search rules) took ∙ ap (λ b. b ++ (if is_bad line then new.lines ∷ [] else [])) (search rules);
      over_is = over_taken turn line _ new (search rules) (search rules) took;
    }
