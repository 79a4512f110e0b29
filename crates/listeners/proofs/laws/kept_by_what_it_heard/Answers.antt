use Rattle.listeners.proofs.KeptProved.{deliveries_are_events, events_in_parts}
use Rattle.listeners.proofs.laws.kept_by_what_it_heard.Goals as goal

pub returns-clause-delivered : goal.returns-clause-delivered
returns-clause-delivered c = deliveries_are_events

pub returns-clause-parts : goal.returns-clause-parts
returns-clause-parts c = events_in_parts
