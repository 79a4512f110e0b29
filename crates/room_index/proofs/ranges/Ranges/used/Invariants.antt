use Rattle.std.proofs.Common.{◌≡◌, ◌+◌, ◌≤◌}
use Rattle.room_index.proofs.ranges.Ranges.used.Given as goal

abbrev pub invariant-loop-slot : goal.invariant-loop-slot
invariant-loop-slot g l = record {
  looks : l.visits ≡ record l.fn.visits { count = l.fn.visits.count + l.slot };
  used : l.used ≤ l.slot;
}
