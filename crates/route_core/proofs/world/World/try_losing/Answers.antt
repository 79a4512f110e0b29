use Rattle.route_core.proofs.world.World.try_losing.Goals as goal

pub invariant_of-self : goal.invariant_of-self
invariant_of-self c = c.losing-told.ensures.of c.self.inside.interfaces c.self.invariant
