use Rattle.route_core.proofs.EffectsLeave.{left_out_for_room}
use Rattle.route_core.proofs.laws.left_out_for_room.Goals as goal

pub returns : goal.returns
returns c = left_out_for_room
