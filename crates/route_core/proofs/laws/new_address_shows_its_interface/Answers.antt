use Rattle.route_core.proofs.InterfacesFound.{new_address_shows_its_interface}
use Rattle.route_core.proofs.laws.new_address_shows_its_interface.Goals as goal

pub returns : goal.returns
returns c = new_address_shows_its_interface
