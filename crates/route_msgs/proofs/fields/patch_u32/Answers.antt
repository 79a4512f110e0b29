use Rattle.route_msgs.proofs.Placed.{placed}
use Rattle.route_msgs.proofs.fields.patch_u32.Goals as goal

pub returns : goal.returns
returns c = placed 4 c.args.value c.args.at c.args.message.now c.write_u32.new.buf c.requires c.write_u32.ensures
