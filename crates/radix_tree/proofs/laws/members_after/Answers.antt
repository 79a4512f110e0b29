use Rattle.radix_tree.proofs.MemberLemmas.{members_of_with, members_of_without}
use Rattle.radix_tree.proofs.laws.members_after.Goals as goal

pub returns : goal.returns
returns g c = search (members_of_with, members_of_without)
