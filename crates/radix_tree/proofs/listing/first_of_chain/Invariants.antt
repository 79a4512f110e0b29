use Rattle.radix_tree.proofs.{ChainGaps.Back, Words.◌≡◌, Words.◌≤◌, Words.◌+◌, Words.◌-◌, Words.None, Words.Placed, Words.IsAmong, Words.Run}
use Rattle.radix_tree.proofs.listing.first_of_chain.Given as goal

abbrev pub invariant-loop-before : goal.invariant-loop-before
invariant-loop-before g l = record {
  turn : l.visits.turn ≡ l.nodes.turn;
  back : (c : Run l.fn.nodes.lodged) (y : Placed g.row.V.Denot) → c.previous ≡ None → IsAmong y c.members → y.room ≡ l.fn.room
      → Back c l.at l.before (l.visits.count - l.fn.visits.count);
  rises : l.fn.visits.count ≤ l.visits.count;
}

abbrev pub decreases-loop-before : goal.decreases-loop-before
decreases-loop-before g l = (l.fn.visits.count + 36) - l.visits.count
