use Rattle.listeners.proofs.SocketLawsProved.{closed_is_gone, closing_disturbs_no_other, reopened_is_empty}
use Rattle.listeners.proofs.laws.closing_disturbs_no_other.Goals as goal

pub returns-clause-gone : goal.returns-clause-gone
returns-clause-gone c = closed_is_gone

pub returns-clause-others : goal.returns-clause-others
returns-clause-others c = closing_disturbs_no_other

pub returns-clause-empty : goal.returns-clause-empty
returns-clause-empty c = reopened_is_empty
