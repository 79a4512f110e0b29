use Rattle.std.proofs.Common.{◌≡◌, ◌+◌}
use Rattle.room_index.proofs.tags.count.Given as goal

abbrev pub invariant-loop-place : goal.invariant-loop-place
invariant-loop-place l = record {
  turn : l.visits.turn ≡ l.fn.visits.turn;
  count : l.visits.count ≡ l.fn.visits.count + l._place;
}
