use Rattle.route_core.proofs.Counting.{caused}
use Rattle.route_core.proofs.FewBrought.{messages_are_few, routes_are_few}
use Rattle.route_core.proofs.world.World.obey_counted.Goals as goal

pub returns-clause-step : goal.returns-clause-step
returns-clause-step c = caused _ _ _ _ _ _ c.take_command.ensures.step c.take_command.ensures.counted

pub returns-clause-few_routes : goal.returns-clause-few_routes
returns-clause-few_routes c = routes_are_few _ _ _ _ c.take_command.ensures.step

pub returns-clause-few_messages : goal.returns-clause-few_messages
returns-clause-few_messages c = messages_are_few _ _
