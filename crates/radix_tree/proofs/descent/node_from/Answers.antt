use Rattle.radix_tree.proofs.Descents.{whole_on_way}
use Rattle.radix_tree.proofs.descent.node_from.Goals as goal

pub returns-in-Some-clause-on_way : goal.returns-in-Some-clause-on_way
returns-in-Some-clause-on_way g c w = c.node_near.ensures.on_way c.args.root w

pub returns-in-None-clause-on_way : goal.returns-in-None-clause-on_way
returns-in-None-clause-on_way g c w = whole_on_way w.part w.named
