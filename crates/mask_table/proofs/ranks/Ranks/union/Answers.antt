use Rattle.mask_table.proofs.RankSets.{union_has, union_ranks}
use Rattle.mask_table.proofs.ranks.Ranks.union.Goals as goal

pub invariant_of-result : goal.invariant_of-result
invariant_of-result c = union_ranks c.self.inside.bits c.other.inside.bits c.self.invariant c.other.invariant

pub returns : goal.returns
returns c = rw (← c.self.view_is, ← c.other.view_is) (union_has c.self.inside.bits c.other.inside.bits)
