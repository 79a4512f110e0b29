use Rattle.radix_tree.proofs.Listings.{Through}
use Rattle.radix_tree.proofs.Words.{◌≡◌, ◌+◌, ◌-◌, Part, AreListed, ForkAt, Id, heads_in, number_of}
use Rattle.radix_tree.proofs.backtracking.best_listed.Given as goal

abbrev pub invariant-loop-at : goal.invariant-loop-at
invariant-loop-at g l = (p : Part l.fn.nodes.lodged) (room : Id) (f : ForkAt p room) → AreListed l.fn.nodes.lodged p
    → heads_in l.fn.nodes.lodged (number_of room) ≡ l.fn.first → Through l.fn.address p f.bit l.at l.fn.visits l.visits

abbrev pub decreases-loop-at : goal.decreases-loop-at
decreases-loop-at g l = (l.fn.visits.count + 33) - l.visits.count
