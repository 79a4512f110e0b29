use Rattle.route_ops.proofs.adding.add_planned.Goals as goal

pub returns-clause-of : goal.returns-clause-of
returns-clause-of c = λ interfaces of are. c.settle_gateway.ensures.of interfaces (c.place_absent.ensures.of interfaces of are)
