use Rattle.mask_table.proofs.RankSets.{intersection_has, intersection_ranks}
use Rattle.mask_table.proofs.ranks.Ranks.intersection.Goals as goal

pub invariant_of-result : goal.invariant_of-result
invariant_of-result c = intersection_ranks c.self.inside.bits c.other.inside.bits c.self.invariant

pub returns : goal.returns
returns c = rw (← c.self.view_is, ← c.other.view_is) (intersection_has c.self.inside.bits c.other.inside.bits)
