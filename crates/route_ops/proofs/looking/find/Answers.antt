-- A clone has its parent's interface address.
use Rattle.route_ops.specs.Standing.{AreOf}
use Rattle.route_ops.proofs.Keeping.{ifa_of}
use Rattle.route_ops.proofs.looking.find.Goals as goal

pub returns-in-Ok-clause-of : goal.returns-in-Ok-clause-of
returns-in-Ok-clause-of c = λ interfaces are.
    let same : AreOf interfaces c.begin-visits.new.self.entries = rw c.begin-visits.ensures.turn are in
    c.resolve.ensures.of interfaces (ifa_of interfaces c.begin-visits.new.self.entries c.in-Some.parent same c.in-Some.ensures.stands) same
