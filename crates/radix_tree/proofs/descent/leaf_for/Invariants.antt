use Rattle.radix_tree.proofs.{Descents.Down, Words.Part, Words.name_of, Words.◌≡◌, Words.◌+◌, Words.◌-◌}
use Rattle.radix_tree.proofs.descent.leaf_for.Given as goal

abbrev pub invariant-loop-at : goal.invariant-loop-at
invariant-loop-at g l = (p : Part l.fn.nodes.lodged) → name_of p.tree ≡ l.fn.from → Down l.fn.address p l.at l.fn.visits l.visits

abbrev pub decreases-loop-at : goal.decreases-loop-at
decreases-loop-at g l = (l.fn.visits.count + 33) - l.visits.count
