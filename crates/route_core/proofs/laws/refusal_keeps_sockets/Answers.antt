use Rattle.route_core.proofs.RefusalsSpare.{refusal_keeps_sockets}
use Rattle.route_core.proofs.laws.refusal_keeps_sockets.Goals as goal

pub returns : goal.returns
returns c = refusal_keeps_sockets
