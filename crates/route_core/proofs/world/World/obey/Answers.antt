use Rattle.route_core.proofs.Counting.{counted_is_a_step}
use Rattle.route_core.proofs.world.World.obey.Goals as goal

pub returns-clause-step : goal.returns-clause-step
returns-clause-step c = counted_is_a_step _ _ _ _ _ _ c.obey_counted.ensures.step
