-- The route stands in the table, beside what stood there, in the room of one of the spare places.
use Rattle.route_ops.proofs.Fitting.{fits_after}
use Rattle.route_ops.proofs.Keeping.{added_keeps, added_of}
use Rattle.route_ops.proofs.placing.place_absent.Goals as goal

pub returns-clause-fits : goal.returns-clause-fits
returns-clause-fits c =
    rw c.keep.ensures
    (fits_after c.args.table.now c.add_absent.new.self c.room.inside.room c.args.spare.now c.take.new.self c.requires.fits
    (rw c.room.view_is c.take.ensures.taken) c.add_absent.ensures.next c.add_absent.ensures.numbers)

pub returns-clause-keeps : goal.returns-clause-keeps
returns-clause-keeps c =
    added_keeps c.args.route.now c.args.table.now.entries c.add_absent.new.self.entries (rw c.of-packed.ensures.route at c.add_absent.ensures.entries)
    c.requires.absent

pub returns-clause-of : goal.returns-clause-of
returns-clause-of c = λ interfaces of are.
    added_of interfaces c.args.route.now c.args.table.now.entries c.add_absent.new.self.entries
    (rw c.of-packed.ensures.route at c.add_absent.ensures.entries) of are
