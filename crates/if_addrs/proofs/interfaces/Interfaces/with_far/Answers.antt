use Rattle.std.proofs.Common.{◌∙◌, ap, Option, option_map}
use Rattle.if_addrs.specs.Interfaces.{Address, addresses_of, reference}
use Rattle.if_addrs.specs.Searches.{leads_to}
use Rattle.if_addrs.proofs.Searching.{found_standing}
use Rattle.if_addrs.proofs.interfaces.Interfaces.with_far.Goals as goal

pub returns-in-Inet-clause-found : goal.returns-in-Inet-clause-found
returns-in-Inet-clause-found c =
    rw c.in-Inet.is (c.first.ensures.found ∙ ap (λ (o : Option Address). option_map reference o) (found_standing (leads_to c.in-Inet.address) (addresses_of c.args.self.now)))
