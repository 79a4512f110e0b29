use Rattle.route_core.proofs.InterfacesFound.{routes_have_interfaces}
use Rattle.route_core.proofs.laws.routes_have_interfaces.Goals as goal

pub returns : goal.returns
returns c = routes_have_interfaces
