use Rattle.std.proofs.Common.{refl}
use Rattle.room_index.proofs.Naming.{index_as}
use Rattle.room_index.proofs.index.RoomIndex.reserve_more.Goals as goal

pub invariant_of-self : goal.invariant_of-self
invariant_of-self g c = index_as c.self.inside.places c.reserve.new.self c.self.inside.ranges c.self.inside.ranges c.self.inside.given_up c.self.invariant
    c.reserve.ensures.tags c.reserve.ensures.entries c.reserve.ensures.bits c.reserve.ensures.used refl refl refl refl refl

pub invariant_of-self-then-many-eq0 : goal.invariant_of-self-then-many-eq0
invariant_of-self-then-many-eq0 g c = index_as c.self.inside.places c.reserve.new.self c.self.inside.ranges c.self.inside.ranges c.self.inside.given_up c.self.invariant
    c.reserve.ensures.tags c.reserve.ensures.entries c.reserve.ensures.bits c.reserve.ensures.used refl refl refl refl refl

pub invariant_of-self-2 : goal.invariant_of-self-2
invariant_of-self-2 g c = index_as c.self.inside.places c.reserve.new.self c.self.inside.ranges c.reserve-2.new.self c.self.inside.given_up c.self.invariant
    c.reserve.ensures.tags c.reserve.ensures.entries c.reserve.ensures.bits c.reserve.ensures.used c.reserve-2.ensures.last c.reserve-2.ensures.ranks c.reserve-2.ensures.short c.reserve-2.ensures.bits c.reserve-2.ensures.finer
