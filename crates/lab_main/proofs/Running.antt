-- The run of the machine that lines are.
use Rattle.std.proofs.Common.{◌≡◌, ◌∙◌, ◌++◌, ℕ, Bool, true, false, List, [], ◌∷◌, Option, Some, None, refl, ap, subst, inl, inr}
use Rattle.std.specs.Prelude.{flat_map, if◌then◌else◌, MatchBool}
use Rattle.std.proofs.lemmas.List.{map-append}
use Rattle.event_file.specs.Grammar.{command_of}
use Rattle.event_file.specs.Lines.{is_passed, kept}
use Rattle.plain_lines.specs.PlainLines.{plain_of}
use Rattle.route_core.specs.Commands.{Command}
use Rattle.route_core.specs.Step.{Steps, StepsCounted}
use Rattle.route_core.specs.Undisturbed.{Runs, Turn, commands_of}
use Rattle.route_core.specs.World.{World}
use Rattle.route_core.specs.declared.answer.Answer.{Answer}
use Rattle.lab_main.specs.Questions.{is_question}
use Rattle.lab_main.specs.Runs.{as_list, command_said}
use Rattle.lab_main.specs.Telling.{ObeysBy, Says, State, Told, answer_to, plainly}
use Rattle.lab_main.specs.declared.shows.Shows.{Shows}

-- the turns of some commands
abbrev RunOf : List Command → World → World → Type 0
RunOf commands old new = (turns : List Turn) × (commands_of turns ≡ commands) × Runs old turns new

pub step_of : (old new : World) (c : Command) (answer : Answer) (before after : ℕ) → StepsCounted old c answer new before after → Steps old c answer new
step_of old new c answer before after (inl (step, count)) = inl step
step_of old new c answer before after (inr (takes, is, kept, more)) = inr (takes, is, kept)

runs_then : (old mid new : World) (a b : List Turn) → Runs old a mid → Runs mid b new → Runs old (a ++ b) new
runs_then old mid new [] b is runs = subst (λ w. Runs w b new) is runs
runs_then old mid new (t ∷ a) b (next, step, more) runs = (next, step, runs_then next mid new a b more runs)

obeyed : (line front body : List ℕ) (old new : World) (c : Option Command) (before after : ℕ) → ObeysBy old line c front body new before after
    → RunOf (as_list c) old new
obeyed line front body old new None before after (is, stays, count) = ([], refl, stays)
obeyed line front body old new (Some c) before after (answer, step, is) =
    (record { command = c; answer = answer } ∷ [], refl, (new, step_of old new c answer before after step, refl))

answered : (line front body told : List ℕ) (old new : World) (asks passed : Bool) (c : Option Command) (before after : ℕ)
    → MatchBool asks (Says told old body new before after)
    (MatchBool passed (Says [] old body new before after) (ObeysBy old line c front body new before after))
    → RunOf (if asks then [] else if passed then [] else as_list c) old new
answered line front body told old new true passed c before after says = ([], refl, says.kept)
answered line front body told old new false true c before after says = ([], refl, says.kept)
answered line front body told old new false false c before after obeys = obeyed line front body old new c before after obeys

run_then : (a b : List Command) (old mid new : World) → RunOf a old mid → RunOf b mid new → RunOf (a ++ b) old new
run_then a b old mid new (s, is, runs) (t, are, more) =
    (s ++ t, map-append (λ u. u.command) s t ∙ ap (λ c. c ++ commands_of t) is ∙ ap (λ c. a ++ c) are, runs_then old mid new s t runs more)

pub run_of : (o : Shows) (old new : State) (lines : List (List ℕ)) (text : List ℕ) → Told o old lines text new
    → (turns : List Turn) × (commands_of turns ≡ flat_map command_said lines) × Runs old.world turns new.world
run_of o old new [] text (none, is) = ([], refl, ap (λ p. p.world) is)
run_of o old new (line ∷ lines) text (mid, first, rest, tells, is, told) =
    run_then (command_said line) (flat_map command_said lines) old.world mid.world new.world
    (answered (plain_of line) (plainly line) tells.body (answer_to line old.world) old.world mid.world (is_question line)
    (is_passed (kept line)) (command_of (plain_of line)) old.refused mid.refused tells.answers)
    (run_of o mid new lines rest told)
