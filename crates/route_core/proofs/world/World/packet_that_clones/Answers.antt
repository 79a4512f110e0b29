use Rattle.route_ops.specs.Standing.{AreOf}
use Rattle.route_core.proofs.world.World.packet_that_clones.Goals as goal

pub invariant_of-self-2 : goal.invariant_of-self-2
invariant_of-self-2 c =
    let interfaces = c.self.inside.interfaces in
    let are : AreOf interfaces c.prepare.new.table.entries = rw c.prepare.ensures.entries c.self.invariant in
    let looked : AreOf interfaces c.finish.new.table.entries =
    rw c.finish.ensures.table (c.look_up-looked.ensures.of interfaces are) in
    c.count_use.ensures.of interfaces looked
