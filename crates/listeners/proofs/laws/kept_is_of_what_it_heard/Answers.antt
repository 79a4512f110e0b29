use Rattle.listeners.proofs.KeptProved.{kept_are_heard, kept_is_bounded, kept_or_counted}
use Rattle.listeners.proofs.laws.kept_is_of_what_it_heard.Goals as goal

pub returns-clause-heard : goal.returns-clause-heard
returns-clause-heard c = kept_are_heard

pub returns-clause-bounded : goal.returns-clause-bounded
returns-clause-bounded c = kept_is_bounded

pub returns-clause-counted : goal.returns-clause-counted
returns-clause-counted c = kept_or_counted
