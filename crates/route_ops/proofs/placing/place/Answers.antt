-- The route stands in the table, beside what stood there, in the room of one of the spare places.
use Rattle.route_ops.proofs.Fitting.{fits_after}
use Rattle.route_ops.proofs.Keeping.{added_keeps, added_of, added_stands}
use Rattle.route_ops.proofs.placing.place.Goals as goal

pub returns-in-Ok-clause-fits : goal.returns-in-Ok-clause-fits
returns-in-Ok-clause-fits c =
    rw c.keep.ensures
    (fits_after c.args.table.now c.add.new.self c.room.inside.room c.args.spare.now c.take.new.self c.requires.fits
    (rw c.room.view_is c.take.ensures.taken) c.add.ensures.next c.in-Ok.ensures.numbers)

pub returns-in-Ok-clause-stands : goal.returns-in-Ok-clause-stands
returns-in-Ok-clause-stands c =
    added_stands c.args.route.now c.args.table.now.entries c.add.new.self.entries (rw c.of-packed.ensures.route at c.in-Ok.ensures.ok)

pub returns-in-Ok-clause-keeps : goal.returns-in-Ok-clause-keeps
returns-in-Ok-clause-keeps c =
    added_keeps c.args.route.now c.args.table.now.entries c.add.new.self.entries (rw c.of-packed.ensures.route at c.in-Ok.ensures.ok)
    c.in-Ok.ensures.absent

pub returns-in-Ok-clause-of : goal.returns-in-Ok-clause-of
returns-in-Ok-clause-of c = λ interfaces of are.
    added_of interfaces c.args.route.now c.args.table.now.entries c.add.new.self.entries
    (rw c.of-packed.ensures.route at c.in-Ok.ensures.ok) of are
