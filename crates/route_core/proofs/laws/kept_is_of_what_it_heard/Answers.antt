use Rattle.route_core.proofs.QueuesKept.{kept_is_of_what_it_met, opens_with_nothing, waits_is_of_what_it_heard}
use Rattle.route_core.proofs.laws.kept_is_of_what_it_heard.Goals as goal

pub returns-clause-met : goal.returns-clause-met
returns-clause-met c = kept_is_of_what_it_met

pub returns-clause-waits : goal.returns-clause-waits
returns-clause-waits c = waits_is_of_what_it_heard

pub returns-clause-opened : goal.returns-clause-opened
returns-clause-opened c = opens_with_nothing
