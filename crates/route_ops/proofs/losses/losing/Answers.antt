use Rattle.std.proofs.Common.{refl}
use Rattle.route_ops.specs.Standing.{AreOf}
use Rattle.route_ops.proofs.Fitting.{begun_keeps_free}
use Rattle.route_ops.proofs.losses.losing.Goals as goal
use Rattle.route_ops.proofs.losses.losing.Goals.{then-has, else-has}

pub returns-clause-of : goal.returns-clause-of
returns-clause-of c = λ interfaces are.
    let same : AreOf interfaces c.begin-visits.new.self.entries = rw c.begin-visits.ensures.turn are in
    elim c.if-has.branch [
      | then-has w ↦ rw w.table-is (w.take_out.ensures.of interfaces same)
      | else-has w ↦ rw w.table-is same
    ]

pub returns-clause-free : goal.returns-clause-free
returns-clause-free c =
    begun_keeps_free c.args.table.now c.begin-visits.new.self c.if-has.table c.begin-visits.ensures.turn
    (elim c.if-has.branch [
      | then-has w ↦ rw w.table-is w.take_out.ensures.free
      | else-has w ↦ rw w.table-is (refl, λ n h. h)
    ])
