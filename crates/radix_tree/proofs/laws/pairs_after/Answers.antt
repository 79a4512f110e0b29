use Rattle.radix_tree.proofs.MemberLemmas.{with_stands, with_keeps_others, without_leaves_none, without_keeps_others}
use Rattle.radix_tree.proofs.laws.pairs_after.Goals as goal

pub returns : goal.returns
returns g c = search (with_stands, with_keeps_others, without_leaves_none, without_keeps_others)
