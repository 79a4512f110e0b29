use Rattle.std.proofs.Common.{arith}
use Rattle.tree_pictures.proofs.Puts.{empty_told}
use Rattle.tree_pictures.proofs.steps.put_find.Goals as goal

pub returns-then-is_empty-clause-put : goal.returns-then-is_empty-clause-put
returns-then-is_empty-clause-put c =
    empty_told c.put_answer.result c.args.text.now c.put_answer.new.text c.args.address c.args.pairs.now (grind arith) c.in_ok-put.ensures.put c.put_answer.ensures.put
