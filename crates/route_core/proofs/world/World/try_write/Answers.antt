use Rattle.route_core.proofs.Counting.{misread}
use Rattle.route_core.proofs.world.World.try_write.Goals as goal

pub returns-in-Err-clause-counted : goal.returns-in-Err-clause-counted
returns-in-Err-clause-counted c =
    rw c.refuse.ensures.refused (misread c.args.bytes.now c.in-Err.refusal _ c.in-Err.ensures.refused)
