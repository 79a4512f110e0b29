use Rattle.std.specs.Prelude.{codes, decimal}
use Rattle.tree_pictures.proofs.Puts.{five_put}
use Rattle.tree_pictures.proofs.svg.put_frame.Goals as goal

pub returns-clause-put : goal.returns-clause-put
returns-clause-put c =
    five_put c.put-4.result c.args.text.now (codes "<rect x=\"-47\" width=\"94\" height=\"") (decimal c.args.count) (codes "4\"") c.args.corners.now
    (codes "/><text>") c.put-4.new.self c.in_ok-put.ensures.put c.in_ok-put_number.ensures.put c.in_ok-put-2.ensures.put c.in_ok-put-3.ensures.put
    c.put-4.ensures.put
