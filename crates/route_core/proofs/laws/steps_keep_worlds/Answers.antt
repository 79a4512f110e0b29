use Rattle.route_core.proofs.WorldsKept.{empty_is_world, steps_keep_worlds}
use Rattle.route_core.proofs.laws.steps_keep_worlds.Goals as goal

pub returns-clause-empty : goal.returns-clause-empty
returns-clause-empty c = empty_is_world

pub returns-clause-steps : goal.returns-clause-steps
returns-clause-steps c = steps_keep_worlds
