use Rattle.route_layouts.proofs.ThereAndBack.{plain_settled}
use Rattle.route_layouts.proofs.laws.plain_is_settled.Goals as goal

pub returns : goal.returns
returns c = plain_settled
