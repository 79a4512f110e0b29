use Rattle.radix_tree.proofs.{MaskWalks.Passing, Words.◌≡◌, Words.◌+◌, Words.◌-◌, Words.List, Words.IsMasks, Words.Placed}
use Rattle.radix_tree.proofs.masks.gap_at.Given as goal

abbrev pub invariant-loop-behind : goal.invariant-loop-behind
invariant-loop-behind g l = record {
  turn : l.visits.turn ≡ l.fn.visits.turn;
  passing : (ms : List (Placed g.row.V.Denot)) → IsMasks l.fn.nodes.lodged l.fn.first ms
      → Passing l.fn.nodes.lodged l.fn.low ms l.before l.behind l.fn.visits l.visits;
}

abbrev pub decreases-loop-behind : goal.decreases-loop-behind
decreases-loop-behind g l = (l.fn.visits.count + 34) - l.visits.count
