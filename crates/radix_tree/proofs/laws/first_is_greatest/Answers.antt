use Rattle.radix_tree.proofs.MemberLemmas as lemmas
use Rattle.radix_tree.proofs.laws.first_is_greatest.Goals as goal

pub returns : goal.returns
returns g c = lemmas.first_is_greatest
