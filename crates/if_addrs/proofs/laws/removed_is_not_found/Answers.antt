use Rattle.if_addrs.proofs.StandingLaws.{found_stands, removed_stands_not}
use Rattle.if_addrs.proofs.laws.removed_is_not_found.Goals as goal

pub returns-clause-found : goal.returns-clause-found
returns-clause-found c = found_stands

pub returns-clause-removed : goal.returns-clause-removed
returns-clause-removed c = removed_stands_not
