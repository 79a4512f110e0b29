use Rattle.route_core.proofs.Undisturbing.{losses_disturb_nobody}
use Rattle.route_core.proofs.laws.losses_disturb_nobody.Goals as goal

pub returns : goal.returns
returns c = losses_disturb_nobody
