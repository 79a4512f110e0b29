use Rattle.radix_tree.proofs.Words.{◌≡◌, ◌≤◌, ◌+◌, ◌-◌, Some, Run, first_room, Passed}
use Rattle.radix_tree.proofs.chains.gap.Given as goal

abbrev pub invariant-loop-next : goal.invariant-loop-next
invariant-loop-next g l = record {
  turn : l.visits.turn ≡ l.nodes.turn;
  passed : (c : Run l.fn.nodes.lodged) → first_room c.members ≡ Some l.fn.first
      → Passed l.fn.rank c l.above l.previous l.next (l.visits.count - l.fn.visits.count);
  rises : l.fn.visits.count ≤ l.visits.count;
}

abbrev pub decreases-loop-next : goal.decreases-loop-next
decreases-loop-next g l = (l.fn.visits.count + 36) - l.visits.count
