-- The route is written anew with an interface address of the interfaces.
use Rattle.std.proofs.Common.{refl}
use Rattle.route_ops.proofs.Keeping.{added_of}
use Rattle.route_ops.proofs.changing.change_planned.Goals as goal

pub returns-in-Some-clause-of : goal.returns-in-Some-clause-of
returns-in-Some-clause-of c = λ interfaces of are.
    c.settle_gateway.ensures.of interfaces (rw (c.replace.ensures, c.requires.packed) (added_of interfaces c.args.route.now c.args.table.now.entries _ refl of are))

pub returns-in-None-clause-of : goal.returns-in-None-clause-of
returns-in-None-clause-of c = λ interfaces of are.
    rw (c.replace.ensures, c.requires.packed) (added_of interfaces c.args.route.now c.args.table.now.entries _ refl of are)
