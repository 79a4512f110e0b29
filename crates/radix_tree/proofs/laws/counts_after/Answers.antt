use Rattle.radix_tree.proofs.MemberLemmas.{with_counts, without_counts}
use Rattle.radix_tree.proofs.laws.counts_after.Goals as goal

pub returns : goal.returns
returns g c = record { with = with_counts; without = without_counts }
