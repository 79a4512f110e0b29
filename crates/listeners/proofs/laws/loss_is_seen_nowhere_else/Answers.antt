use Rattle.listeners.proofs.SocketLawsProved.{loss_is_seen_nowhere_else}
use Rattle.listeners.proofs.laws.loss_is_seen_nowhere_else.Goals as goal

pub returns : goal.returns
returns c = loss_is_seen_nowhere_else
