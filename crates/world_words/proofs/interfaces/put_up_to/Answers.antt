use Rattle.std.proofs.Common.{◌∙◌}
use Rattle.world_words.specs.Interfaces.{numbered_lines}
use Rattle.world_words.proofs.Ranges.{put_more_from_one}
use Rattle.world_words.proofs.interfaces.put_up_to.Goals as goal

pub interfaces-preserved : goal.interfaces-preserved
interfaces-preserved c = (
  put_more_from_one (numbered_lines c.args.world.now) c.interfaces.place c.args.text.now c.interfaces.text
      c.put_interface.new.text c.interfaces.invariant.0 c.in_ok-put_interface.ensures.put,
  c.in_ok-put_interface.ensures.counted ∙ c.interfaces.invariant.1,
)
