use Rattle.radix_tree.proofs.{Scans.Along, Scans.CoversIt, Words.Run, Words.first_room, Words.◌≡◌, Words.◌+◌, Words.◌-◌, Words.Some}
use Rattle.radix_tree.proofs.scanning.first_agreeing.Given as goal

abbrev pub invariant-loop-at : goal.invariant-loop-at
invariant-loop-at g l = (c : Run l.fn.nodes.lodged) → first_room c.members ≡ Some l.fn.first → Along (CoversIt l.fn.address) c l.at l.fn.visits l.visits

abbrev pub decreases-loop-at : goal.decreases-loop-at
decreases-loop-at g l = (l.fn.visits.count + 35) - l.visits.count
