use Rattle.std.proofs.Common.{arith}
use Rattle.tree_pictures.proofs.Puts.{whole_graphed}
use Rattle.tree_pictures.proofs.graph.put_graph.Goals as goal

pub returns-clause-put : goal.returns-clause-put
returns-clause-put c = whole_graphed c.put-3.result c.args.text.now c.put-3.new.self c.args.pairs.now (grind arith) c.in_ok-put.ensures.put
    c.in_ok-put_part.ensures.put c.put-3.ensures.put
