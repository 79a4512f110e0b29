use Rattle.radix_tree.specs.declared.entry.Entry.{Entry}
use Rattle.route_entries.specs.declared.route.Route.{Route}
use Rattle.route_ops.proofs.Keeping.{ifa_of}
use Rattle.route_ops.proofs.reading.best_ifa.Goals as goal

pub returns-in-Some-clause-of : goal.returns-in-Some-clause-of
returns-in-Some-clause-of c = λ interfaces are.
    let best : Entry Route = record { key = c.in-Some.field-0-0; rank = c.in-Some.field-0-1; value = c.in-Some.route.now } in
    rw c.ifa.ensures (ifa_of interfaces c.args.table.now.entries best are c.in-Some.ensures.stands)
