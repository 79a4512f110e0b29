use Rattle.route_layouts.proofs.Counterparts.{counterparts}
use Rattle.hoiskend.proofs.Results.{if_err, on_ok}
use Rattle.hoiskend.proofs.convert.counterpart.Goals as goal

pub returns-clause-there : goal.returns-clause-there
returns-clause-there c =
    rw (← c.layout-one.ensures.declared, ← c.layout-other.ensures.declared) (on_ok c.convert.result c.convert.ensures.converted
    (λ is. counterparts.ok c.layout-one.result c.layout-other.result c.args.message.now c.convert.new.made.items is))

pub returns-clause-fault : goal.returns-clause-fault
returns-clause-fault c =
    rw (← c.layout-one.ensures.declared, ← c.layout-other.ensures.declared) (if_err c.convert.result c.convert.ensures.refused
    (λ why is. counterparts.err c.layout-one.result c.layout-other.result c.args.message.now why is))
