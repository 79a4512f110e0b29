use Rattle.if_addrs.proofs.Networks.{last_is_greatest}
use Rattle.if_addrs.proofs.laws.last_of_network_is_greatest.Goals as goal

pub returns : goal.returns
returns c = last_is_greatest
