use Rattle.std.proofs.Common.{false}
use Rattle.tree_pictures.proofs.Puts.{try_put}
use Rattle.tree_pictures.proofs.steps.put_try.Goals as goal

pub returns-else-agrees-clause-put : goal.returns-else-agrees-clause-put
returns-else-agrees-clause-put c = try_put c.put-else-agrees.result c.args.text.now c.put-else-agrees.new.self c.args.address c.args.pair false c.if-agrees.ensures
    c.in_ok-put.ensures.put c.in_ok-put_destination.ensures.put c.put-else-agrees.ensures.put
