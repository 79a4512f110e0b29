use Rattle.radix_tree.proofs.{Climbs.Climb, Climbs.Past, Words.IsNew, Words.◌≡◌, Words.◌+◌, Words.◌-◌, Words.ℕ}
use Rattle.radix_tree.proofs.placing.spot_above.Given as goal

abbrev pub invariant-loop-above : goal.invariant-loop-above
invariant-loop-above g l = record {
  turn : l.visits.turn ≡ l.fn.visits.turn;
  climb : (key : ℕ) (w : IsNew l.fn.nodes.lodged key l.fn.bit l.fn.leaf) → Climb key w.whole
      (Past key w.led.leaf.first.entry.key l.fn.bit l.below l.fn.visits l.visits) l.above;
}

abbrev pub decreases-loop-above : goal.decreases-loop-above
decreases-loop-above g l = (l.fn.visits.count + 34) - l.visits.count
