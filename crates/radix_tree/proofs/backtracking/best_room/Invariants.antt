use Rattle.radix_tree.proofs.{Climbs.Climb, Listings.Searched, Words.IsWhole, Words.◌≡◌, Words.◌+◌, Words.◌-◌}
use Rattle.radix_tree.proofs.backtracking.best_room.Given as goal

abbrev pub invariant-loop-at : goal.invariant-loop-at
invariant-loop-at g l = record {
  turn : l.visits.turn ≡ l.fn.visits.turn;
  climb : (w : IsWhole l.fn.nodes.lodged l.fn.root) → Climb l.fn.address w.part (Searched l.fn.address l.fn.visits l.visits) l.at;
}

abbrev pub decreases-loop-at : goal.decreases-loop-at
decreases-loop-at g l = (l.fn.visits.count + 132) - l.visits.count
