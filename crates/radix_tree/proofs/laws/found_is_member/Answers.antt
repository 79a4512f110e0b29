use Rattle.radix_tree.proofs.MemberLemmas.{entry_at_is_member, first_of_is_member, best_is_member}
use Rattle.radix_tree.proofs.laws.found_is_member.Goals as goal

pub returns : goal.returns
returns g c = record { entry_at = entry_at_is_member; first_of = first_of_is_member; best_of = best_is_member }
