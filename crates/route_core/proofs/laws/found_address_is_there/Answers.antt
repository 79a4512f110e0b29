use Rattle.route_core.proofs.InterfacesFound.{found_address_is_there}
use Rattle.route_core.proofs.laws.found_address_is_there.Goals as goal

pub returns : goal.returns
returns c = found_address_is_there
