use Rattle.listeners.proofs.SocketLawsProved.{hears_in_words, loopback_off_silences_own, loopback_leaves_others}
use Rattle.listeners.proofs.laws.loopback_silences_own_replies_alone.Goals as goal

pub returns-clause-family : goal.returns-clause-family
returns-clause-family c = hears_in_words

pub returns-clause-own : goal.returns-clause-own
returns-clause-own c = loopback_off_silences_own

pub returns-clause-others : goal.returns-clause-others
returns-clause-others c = loopback_leaves_others
