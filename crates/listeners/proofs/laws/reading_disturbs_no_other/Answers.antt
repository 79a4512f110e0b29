use Rattle.listeners.proofs.SocketLawsProved.{reading_changes_messages_alone, reading_disturbs_no_other, reading_keeps_count}
use Rattle.listeners.proofs.laws.reading_disturbs_no_other.Goals as goal

pub returns-clause-others : goal.returns-clause-others
returns-clause-others c = reading_disturbs_no_other

pub returns-clause-alone : goal.returns-clause-alone
returns-clause-alone c = reading_changes_messages_alone

pub returns-clause-count : goal.returns-clause-count
returns-clause-count c = reading_keeps_count
