use Rattle.route_core.proofs.Undisturbing.{others_are_not_needed, others_do_not_disturb}
use Rattle.route_core.proofs.laws.others_do_not_disturb.Goals as goal

pub returns-clause-same : goal.returns-clause-same
returns-clause-same c = others_do_not_disturb

pub returns-clause-runs : goal.returns-clause-runs
returns-clause-runs c = others_are_not_needed
