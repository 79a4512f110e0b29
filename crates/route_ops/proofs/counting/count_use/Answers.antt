use Rattle.std.proofs.Common.{ap}
use Rattle.route_entries.specs.declared.route.Route.{Route}
use Rattle.route_ops.proofs.Keeping.{rewritten_of}
use Rattle.route_ops.proofs.counting.count_use.Goals as goal

pub returns-clause-of : goal.returns-clause-of
returns-clause-of c = λ interfaces are.
    rewritten_of interfaces c.args.route.now c.count_use.new.self c.args.table.now c.rewrite.new.table c.rewrite.ensures (ap (λ (r : Route). r.ifa) c.count_use.ensures) c.requires are
