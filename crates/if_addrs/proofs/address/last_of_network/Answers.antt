use Rattle.std.proofs.Common.{arith, rules}
use Rattle.if_addrs.proofs.Networks.{network_cast}
use Rattle.if_addrs.proofs.address.last_of_network.Goals as goal

pub overflow_cast-next-2 : goal.overflow_cast-next-2
overflow_cast-next-2 c =
    search (rules, network_cast c.from.result c.from-free.result (omega (arith, c.from.ensures, c.number.type_inv)) (omega (arith, c.from-free.ensures)))
