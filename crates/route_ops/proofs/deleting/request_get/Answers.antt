use Rattle.route_ops.proofs.Keeping.{ifa_of}
use Rattle.route_ops.proofs.deleting.request_get.Goals as goal

pub returns-clause-ifa : goal.returns-clause-ifa
returns-clause-ifa c = λ interfaces are. ifa_of interfaces c.args.table.now.entries c.in-Some.route are c.in-Some.ensures.stands
