use Rattle.radix_tree.proofs.{Climbs.Climb, Descents.Named, Words.◌≡◌, Words.◌+◌, Words.◌-◌, Words.ℕ, Words.None, Words.Part, Words.LedTo}
use Rattle.radix_tree.proofs.descent.shared_above.Given as goal

abbrev pub invariant-loop-above : goal.invariant-loop-above
invariant-loop-above g l = record {
  turn : l.visits.turn ≡ l.fn.visits.turn;
  climb : (key : ℕ) (whole : Part l.fn.nodes.lodged) → whole.above ≡ None → LedTo key whole l.fn.leaf
      → Climb key whole (Named l.below l.fn.visits l.visits) l.above;
}

abbrev pub decreases-loop-above : goal.decreases-loop-above
decreases-loop-above g l = (l.fn.visits.count + 34) - l.visits.count
