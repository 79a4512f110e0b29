use Rattle.if_addrs.proofs.ReferenceLawsProved.{none_numbered, attaching_lasts, adding_lasts, marking_lasts, removing_lasts}
use Rattle.if_addrs.proofs.laws.references_last.Goals as goal

pub returns-clause-none : goal.returns-clause-none
returns-clause-none c = none_numbered

pub returns-clause-attaching : goal.returns-clause-attaching
returns-clause-attaching c = attaching_lasts

pub returns-clause-adding : goal.returns-clause-adding
returns-clause-adding c = adding_lasts

pub returns-clause-marking : goal.returns-clause-marking
returns-clause-marking c = marking_lasts

pub returns-clause-removing : goal.returns-clause-removing
returns-clause-removing c = removing_lasts
