use Rattle.route_layouts.proofs.Counterparts.{counterparts}
use Rattle.route_layouts.proofs.laws.counterpart_is_computed.Goals as goal

pub returns : goal.returns
returns c = counterparts
