use Rattle.mask_table.proofs.RankSets.{without_rank, without_ranks}
use Rattle.mask_table.proofs.ranks.Ranks.without.Goals as goal

pub invariant_of-result : goal.invariant_of-result
invariant_of-result c = without_ranks c.self.inside.bits c.place_of.result c.args.rank c.place_of.ensures.place c.self.invariant

pub returns : goal.returns
returns c = rw (← c.self.view_is) (without_rank c.self.inside.bits c.place_of.result c.args.rank c.place_of.ensures.place)
