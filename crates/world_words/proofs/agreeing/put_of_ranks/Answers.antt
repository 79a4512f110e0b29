use Rattle.std.proofs.Common.{◌∙◌}
use Rattle.world_words.proofs.Ranges.{put_rank_more}
use Rattle.world_words.proofs.agreeing.put_of_ranks.Goals as goal

pub ranks-preserved : goal.ranks-preserved
ranks-preserved c = (
  put_rank_more c.args.world.now c.args.address c.args.routes.now c.ranks.i c.args.text.now c.ranks.text c.put_of_rank.new.text
      c.ranks.invariant.0 (rw c.new.ensures at c.in_ok-put_of_rank.ensures.put),
  c.in_ok-put_of_rank.ensures.counted ∙ c.ranks.invariant.1,
)
