use Rattle.radix_tree.proofs.MemberLemmas.{members_stand, members_are_routes}
use Rattle.radix_tree.proofs.laws.members.Goals as goal

pub returns : goal.returns
returns g c = search (members_stand, members_are_routes)
