use Rattle.radix_tree.proofs.LawLemmas.{best_is_greatest, best_is_unique, none_agrees}
use Rattle.radix_tree.proofs.laws.best_is_greatest.Goals as goal

pub returns : goal.returns
returns g c = search (best_is_greatest, best_is_unique, none_agrees)
