use Rattle.tree_pictures.proofs.Puts.{best_put}
use Rattle.tree_pictures.proofs.steps.put_best.Goals as goal

pub returns-clause-put : goal.returns-clause-put
returns-clause-put c = best_put c.put-3.result c.args.text.now c.put-3.new.self c.args.address c.args.pair c.in_ok-put.ensures.put c.in_ok-put_inet.ensures.put
    c.in_ok-put-2.ensures.put c.in_ok-put_destination.ensures.put c.put-3.ensures.put
