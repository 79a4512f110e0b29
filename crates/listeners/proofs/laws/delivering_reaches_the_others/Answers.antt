use Rattle.listeners.proofs.SocketLawsProved.{delivers_without_closed, delivers_whatever_loopback}
use Rattle.listeners.proofs.laws.delivering_reaches_the_others.Goals as goal

pub returns-clause-closed : goal.returns-clause-closed
returns-clause-closed c = delivers_without_closed

pub returns-clause-loopback : goal.returns-clause-loopback
returns-clause-loopback c = delivers_whatever_loopback
