use Rattle.route_core.proofs.InterfacesFound.{gone_address_shows_its_interface}
use Rattle.route_core.proofs.laws.gone_address_shows_its_interface.Goals as goal

pub returns : goal.returns
returns c = gone_address_shows_its_interface
