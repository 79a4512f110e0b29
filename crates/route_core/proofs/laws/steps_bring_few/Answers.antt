use Rattle.route_core.proofs.FewBrought.{effects_are_few, steps_bring_few}
use Rattle.route_core.proofs.laws.steps_bring_few.Goals as goal

pub returns-clause-effects : goal.returns-clause-effects
returns-clause-effects c = effects_are_few

pub returns-clause-steps : goal.returns-clause-steps
returns-clause-steps c = steps_bring_few
