use Rattle.route_msgs.proofs.AddressSizes.{named}
use Rattle.route_msgs.proofs.laws.named_bits_are_addresses.Goals as goal

pub returns : goal.returns
returns c = named
