-- An answer that there is no memory has a cause: memory was refused.
use Rattle.std.specs.Prelude.{◌≡◌, false, ℕ}
use Rattle.memory.specs.Refusing.{Rises}
use Rattle.route_core.specs.Commands.{Command}
use Rattle.route_core.specs.Step.{Steps, StepsCounted, lacks_memory, takes_memory}
use Rattle.route_core.specs.World.{World}
use Rattle.route_core.specs.declared.answer.Answer.{Answer}

-- a counted step is a step
abbrev pub CountedIsAStep : Type 0
CountedIsAStep = (old : World) (c : Command) (answer : Answer) (new : World) (before after : ℕ)
    → StepsCounted old c answer new before after → Steps old c answer new

-- and answers that there is no memory exactly where the count rose
abbrev pub AnswerHasACause : Type 0
AnswerHasACause = (old : World) (c : Command) (answer : Answer) (new : World) (before after : ℕ)
    → StepsCounted old c answer new before after → Rises (lacks_memory answer) before after

-- a command that takes no memory leaves the count
abbrev pub OthersLeaveTheCount : Type 0
OthersLeaveTheCount = (old : World) (c : Command) (answer : Answer) (new : World) (before after : ℕ)
    → takes_memory old c ≡ false → StepsCounted old c answer new before after → after ≡ before
