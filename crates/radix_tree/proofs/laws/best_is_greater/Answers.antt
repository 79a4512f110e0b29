use Rattle.radix_tree.proofs.LawLemmas as lemmas
use Rattle.radix_tree.proofs.laws.best_is_greater.Goals as goal

pub returns : goal.returns
returns g c = lemmas.best_is_greater
