use Rattle.route_core.proofs.world.World.try_packet.Goals as goal

pub invariant_of-self-2 : goal.invariant_of-self-2
invariant_of-self-2 c = c.use_best.ensures.of c.self.inside.interfaces c.self.invariant
