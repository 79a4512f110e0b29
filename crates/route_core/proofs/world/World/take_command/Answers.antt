use Rattle.route_core.proofs.Counting.{stands}
use Rattle.route_core.proofs.world.World.take_command.Goals as goal

pub returns-in-Read-clause-counted : goal.returns-in-Read-clause-counted
returns-in-Read-clause-counted c = stands _ _ _ _ _ c.take.ensures
