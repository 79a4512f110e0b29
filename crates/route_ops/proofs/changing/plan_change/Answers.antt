-- The changed route's interface address was found, or is the old one.
use Rattle.if_addrs.specs.Interfaces.{IsOf}
use Rattle.route_ops.proofs.Keeping.{ifa_of, unwrap_of}
use Rattle.route_ops.proofs.changing.plan_change.Goals as goal

pub returns-clause-of : goal.returns-clause-of
returns-clause-of c =
    let interfaces = c.args.interfaces.now in
    let r = c.in_ok-old.old in
    let old : IsOf r.value.ifa interfaces = ifa_of interfaces c.args.table.now.entries r c.requires.of c.in_ok-old.ensures.stands in
    rw c.applied-value.ensures (unwrap_of interfaces c.asked_ifa-ifa.result r.value.ifa c.asked_ifa-ifa.ensures.of old)
