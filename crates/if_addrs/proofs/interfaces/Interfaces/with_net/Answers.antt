use Rattle.std.proofs.Common.{◌∙◌, ap, List, option_map}
use Rattle.if_addrs.specs.Interfaces.{Address, addresses_of, reference}
use Rattle.if_addrs.specs.Searches.{longest, network_holds}
use Rattle.if_addrs.proofs.Searching.{filtered_standing}
use Rattle.if_addrs.proofs.interfaces.Interfaces.with_net.Goals as goal

pub returns-in-Inet-clause-found : goal.returns-in-Inet-clause-found
returns-in-Inet-clause-found c =
    rw c.in-Inet.is (c.longest.ensures.found ∙ ap (λ (xs : List Address). option_map reference (longest xs)) (filtered_standing (network_holds c.in-Inet.address) (addresses_of c.args.self.now)))
