use Rattle.listeners.proofs.SocketLawsProved.{closing_keeps_bound, delivering_keeps_bound, loopback_keeps_bound, reading_keeps_bound}
use Rattle.listeners.proofs.laws.queues_stay_bounded.Goals as goal

pub returns-clause-closing : goal.returns-clause-closing
returns-clause-closing c = closing_keeps_bound

pub returns-clause-loopback : goal.returns-clause-loopback
returns-clause-loopback c = loopback_keeps_bound

pub returns-clause-reading : goal.returns-clause-reading
returns-clause-reading c = reading_keeps_bound

pub returns-clause-delivering : goal.returns-clause-delivering
returns-clause-delivering c = delivering_keeps_bound
