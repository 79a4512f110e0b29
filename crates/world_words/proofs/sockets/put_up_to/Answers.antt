use Rattle.std.proofs.Common.{◌∙◌}
use Rattle.world_words.specs.Sockets.{line_at}
use Rattle.world_words.proofs.Ranges.{put_more}
use Rattle.world_words.proofs.sockets.put_up_to.Goals as goal

pub sockets-preserved : goal.sockets-preserved
sockets-preserved c = (
  put_more (line_at c.args.world.now) c.sockets.place c.args.text.now c.sockets.text c.put_at.new.text
      c.sockets.invariant.0 c.in_ok-put_at.ensures.put,
  c.in_ok-put_at.ensures.counted ∙ c.sockets.invariant.1,
)
