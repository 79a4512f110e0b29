use Rattle.listeners.proofs.SocketLawsProved.{delivering_changes_kept_alone}
use Rattle.listeners.proofs.laws.delivering_appends_or_counts.Goals as goal

pub returns-clause-alone : goal.returns-clause-alone
returns-clause-alone c = delivering_changes_kept_alone
