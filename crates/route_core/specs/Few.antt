-- How little one step brings: at most two routes, and at most two messages.
use Rattle.std.specs.Prelude.{◌≤◌, length}
use Rattle.route_ops.specs.Standing.{brought}
use Rattle.route_core.specs.Commands.{Command}
use Rattle.route_core.specs.Step.{Effect, Steps, effect}
use Rattle.route_core.specs.World.{World}
use Rattle.route_core.specs.declared.answer.Answer.{Answer}

-- what is done to this world brings its table two routes at most, and tells two messages at most
pub record IsFew (w : World) (e : Effect) : Type 0 where
  pub routes : brought w.table e.table ≤ 2
  pub messages : length e.told ≤ 2

-- so is what any command does
abbrev pub EffectsAreFew : Type 0
EffectsAreFew = (w : World) (c : Command) → IsFew w (effect w c)

-- and so any step brings two routes at most
abbrev pub StepsBringFew : Type 0
StepsBringFew = (old : World) (c : Command) (answer : Answer) (new : World) → Steps old c answer new
    → brought old.table new.table ≤ 2
