use Rattle.listeners.proofs.SocketLawsProved.{loopback_is_set, loopback_disturbs_no_other, loopback_changes_it_alone}
use Rattle.listeners.proofs.laws.loopback_disturbs_no_other.Goals as goal

pub returns-clause-set : goal.returns-clause-set
returns-clause-set c = loopback_is_set

pub returns-clause-others : goal.returns-clause-others
returns-clause-others c = loopback_disturbs_no_other

pub returns-clause-alone : goal.returns-clause-alone
returns-clause-alone c = loopback_changes_it_alone
