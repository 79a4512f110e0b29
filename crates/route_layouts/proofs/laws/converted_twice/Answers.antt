use Rattle.route_layouts.proofs.OnceMore.{converted_once_more}
use Rattle.route_layouts.proofs.laws.converted_twice.Goals as goal

pub returns : goal.returns
returns c = converted_once_more
