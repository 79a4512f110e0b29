use Rattle.radix_tree.proofs.LawLemmas as lemmas
use Rattle.radix_tree.proofs.laws.best_stays.Goals as goal

pub returns : goal.returns
returns g c = search (lemmas.best_stays, lemmas.best_stays_without)
