use Rattle.radix_tree.proofs.{Scans.Along, Words.◌≡◌, Words.◌+◌, Words.◌-◌, Words.Some, Words.Run, Words.first_room, Words.HasPair}
use Rattle.radix_tree.proofs.scanning.of_pair.Given as goal

abbrev pub invariant-loop-at : goal.invariant-loop-at
invariant-loop-at g l = (c : Run l.fn.nodes.lodged) → first_room c.members ≡ Some l.fn.first → Along (HasPair l.fn.key l.fn.rank) c l.at l.fn.visits l.visits

abbrev pub decreases-loop-at : goal.decreases-loop-at
decreases-loop-at g l = (l.fn.visits.count + 35) - l.visits.count
