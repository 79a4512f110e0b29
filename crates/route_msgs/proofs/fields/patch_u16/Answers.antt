use Rattle.route_msgs.proofs.Placed.{placed}
use Rattle.route_msgs.proofs.fields.patch_u16.Goals as goal

pub returns : goal.returns
returns c = placed 2 c.args.value c.args.at c.args.message.now c.write_u16.new.buf c.requires c.write_u16.ensures
