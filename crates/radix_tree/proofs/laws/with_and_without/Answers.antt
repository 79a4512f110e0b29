use Rattle.radix_tree.proofs.LawLemmas.{with_then_without, without_then_with, with_twice_is_last}
use Rattle.radix_tree.proofs.laws.with_and_without.Goals as goal

pub returns : goal.returns
returns g c = search (with_then_without, without_then_with, with_twice_is_last)
