use Rattle.route_ops.specs.Standing.{AreOf}
use Rattle.route_ops.proofs.Fitting.{begun_keeps_free}
use Rattle.route_ops.proofs.deleting.take_first.Goals as goal

pub returns-clause-of : goal.returns-clause-of
returns-clause-of c = λ interfaces are.
    let same : AreOf interfaces c.begin-visits.new.self.entries = rw c.begin-visits.ensures.turn are in
    c.take_out.ensures.of interfaces same

pub returns-clause-free : goal.returns-clause-free
returns-clause-free c =
    begun_keeps_free c.args.table.now c.begin-visits.new.self c.take_out.new.table c.begin-visits.ensures.turn c.take_out.ensures.free
