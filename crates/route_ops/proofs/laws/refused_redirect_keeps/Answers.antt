use Rattle.route_ops.proofs.RedirectRefused.{refused_redirect_keeps}
use Rattle.route_ops.proofs.laws.refused_redirect_keeps.Goals as goal

pub returns : goal.returns
returns c = refused_redirect_keeps
