-- The changed route's interface address is of the interfaces.
use Rattle.route_ops.specs.Standing.{AreOf}
use Rattle.route_ops.proofs.changing.request_change.Goals as goal

pub returns-clause-of : goal.returns-clause-of
returns-clause-of c =
    let same : AreOf c.args.interfaces.now c.begin-visits.new.self.entries = rw c.begin-visits.ensures.turn c.requires.of in
    c.change_planned-messages.ensures.of c.args.interfaces.now c.in-Ok.ensures.of same
