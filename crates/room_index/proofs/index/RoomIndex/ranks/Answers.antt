use Rattle.std.proofs.Common.{not, sym, subst, arith}
use Rattle.room_index.proofs.Naming.{told_named}
use Rattle.room_index.specs.Names.{Names}
use Rattle.mask_table.specs.Agreeing.{masked}
use Rattle.room_index.specs.Homes.{pair}
use Rattle.room_index.proofs.index.RoomIndex.ranks.Goals as goal

pub returns-clause-ranks : goal.returns-clause-ranks
returns-clause-ranks g c rank room fits names = c.ranks.ensures.told rank fits
    (told_named c.self.inside.places c.self.inside.ranges (not c.self.inside.given_up) c.self.invariant.told c.args.address rank room (grind arith) fits
    (subst (λ h. Names h (pair (masked rank c.args.address) rank) room) (sym c.self.view_is) names))
