use Rattle.radix_tree.proofs.{Walks.Upward, Words.◌≡◌, Words.◌≤◌, Words.◌+◌, Words.◌-◌}
use Rattle.radix_tree.proofs.walk.place_behind.Given as goal

abbrev pub invariant-loop-above : goal.invariant-loop-above
invariant-loop-above g l = record {
  turn : l.visits.turn ≡ l.nodes.turn;
  climb : Upward l.fn.nodes.lodged l.fn.key l.fn.first l.above (l.visits.count - l.fn.visits.count);
  rises : l.fn.visits.count ≤ l.visits.count;
}

abbrev pub decreases-loop-above : goal.decreases-loop-above
decreases-loop-above g l = (l.fn.visits.count + 34) - l.visits.count
