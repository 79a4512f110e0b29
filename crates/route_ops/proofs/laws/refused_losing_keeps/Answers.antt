use Rattle.route_ops.proofs.LossRefused.{refused_losing_keeps}
use Rattle.route_ops.proofs.laws.refused_losing_keeps.Goals as goal

pub returns : goal.returns
returns c = refused_losing_keeps
