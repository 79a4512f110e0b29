use Rattle.std.proofs.Common.{sym}
use Rattle.radix_tree.specs.declared.entry.Entry.{Entry}
use Rattle.route_entries.specs.declared.route.Route.{Route}
use Rattle.route_ops.proofs.Keeping.{ifa_of}
use Rattle.route_ops.proofs.reading.route_at.Goals as goal

pub returns-in-Some-clause-ifa : goal.returns-in-Some-clause-ifa
returns-in-Some-clause-ifa c = λ interfaces are.
    let r : Entry Route = record { key = c.args.key; rank = c.args.rank; value = c.in-Some.value.now } in
    rw c.route.ensures (ifa_of interfaces c.args.table.now.entries r are (sym c.in-Some.ensures.entry))
