use Rattle.listeners.proofs.QueueLemmas.{cut-joined, whole-joined}
use Rattle.listeners.proofs.laws.joined_is_cut.Goals as goal

pub returns : goal.returns
returns c = record { same = cut-joined; whole = whole-joined }
