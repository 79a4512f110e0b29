use Rattle.std.specs.Prelude.{codes}
use Rattle.lab_text.specs.Words.{destination_word}
use Rattle.tree_pictures.proofs.Puts.{three_put}
use Rattle.tree_pictures.proofs.svg.put_line.Goals as goal

pub returns-clause-put : goal.returns-clause-put
returns-clause-put c =
    three_put c.put-2.result c.args.text.now (codes "<tspan x=\"0\" dy=\"10\">") (destination_word c.args.pair.key c.args.pair.rank) (codes "</tspan>")
    c.put-2.new.self c.in_ok-put.ensures.put c.in_ok-put_destination.ensures.put c.put-2.ensures.put
