use Rattle.std.proofs.Common.{arith}
use Rattle.tree_pictures.proofs.Puts.{whole_pictured}
use Rattle.tree_pictures.proofs.svg.put_svg.Goals as goal

pub returns-clause-put : goal.returns-clause-put
returns-clause-put c = whole_pictured c.put-2.result c.args.text.now c.put-2.new.self c.args.pairs.now (grind arith) c.size_of-size.ensures.columns
    c.size_of-size.ensures.rows c.in_ok-put_start.ensures.put c.in_ok-put_part.ensures.put c.put-2.ensures.put
