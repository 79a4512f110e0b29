use Rattle.mask_table.proofs.RankSets.{with_rank, with_ranks}
use Rattle.mask_table.proofs.ranks.Ranks.with.Goals as goal

pub invariant_of-result : goal.invariant_of-result
invariant_of-result c = with_ranks c.self.inside.bits c.place_of.result c.args.rank c.place_of.ensures.place c.self.invariant

pub returns : goal.returns
returns c = rw (← c.self.view_is) (with_rank c.self.inside.bits c.place_of.result c.args.rank c.place_of.ensures.place)
