use Rattle.std.proofs.Common.{refl}
use Rattle.route_ops.proofs.Keeping.{rewritten_of}
use Rattle.route_ops.proofs.redirecting.modify.Goals as goal

pub returns-clause-of : goal.returns-clause-of
returns-clause-of c = λ interfaces are.
    c.settle_gateway-messages.ensures.of interfaces (rewritten_of interfaces c.args.old _ c.args.table.now c.rewrite.new.table c.rewrite.ensures refl c.requires.stands are)
