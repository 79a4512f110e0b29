use Rattle.radix_tree.proofs.{Indexed.AreLeft, Words.◌≤◌, Words.◌*◌, Words.◌+◌, Words.◌-◌, Words.IsWhole, Words.Reads}
use Rattle.radix_tree.specs.Bounds.{index_reads}
use Rattle.radix_tree.proofs.finding.best_by_rank.Given as goal

abbrev pub invariant-loop-rank : goal.invariant-loop-rank
invariant-loop-rank g l = record {
  within : l.left ≤ 34;
  are : (w : IsWhole l.fn.nodes.lodged l.fn.root) → AreLeft w l.fn.address l.left l.ranks;
  reads : Reads l.fn.visits l.visits ((34 - l.left) * (index_reads + 1));
}

abbrev pub decreases-loop-rank : goal.decreases-loop-rank
decreases-loop-rank g l = l.left
