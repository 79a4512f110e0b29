use Rattle.room_index.proofs.Naming.{index_as}
use Rattle.room_index.proofs.index.RoomIndex.give_back.Goals as goal

pub invariant_of-self : goal.invariant_of-self
invariant_of-self g c = index_as c.self.inside.places c.give_back.new.self c.self.inside.ranges c.give_back-2.new.self c.self.inside.given_up c.self.invariant
    c.give_back.ensures.tags c.give_back.ensures.entries c.give_back.ensures.bits c.give_back.ensures.used c.give_back-2.ensures.last c.give_back-2.ensures.ranks
    c.give_back-2.ensures.short c.give_back-2.ensures.bits c.give_back-2.ensures.finer
