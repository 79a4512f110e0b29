use Rattle.radix_tree.proofs.finding.ranks_left.Goals as goal

pub returns-then-asked-eq-IN_VAIN-clause-kept : goal.returns-then-asked-eq-IN_VAIN-clause-kept
returns-then-asked-eq-IN_VAIN-clause-kept c rank room fits named has = (c.intersection.ensures rank).1 (has, c.ranks.ensures.ranks rank room fits named)
