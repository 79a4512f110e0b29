use Rattle.std.proofs.Common.{ap}
use Rattle.route_entries.specs.declared.route.Route.{Route}
use Rattle.route_ops.specs.Standing.{AreOf}
use Rattle.route_ops.proofs.Keeping.{rewritten_of}
use Rattle.route_ops.proofs.changing.request_lock.Goals as goal

pub returns-clause-of : goal.returns-clause-of
returns-clause-of c = λ interfaces are.
    let same : AreOf interfaces c.begin-visits.new.self.entries = rw c.begin-visits.ensures.turn are in
    rewritten_of interfaces c.in_ok-route.route _ c.begin-visits.new.self c.rewrite.new.table c.rewrite.ensures (ap (λ (r : Route). r.ifa) c.set_locks.ensures) c.in_ok-route.ensures.stands same
