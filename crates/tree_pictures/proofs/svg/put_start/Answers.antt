use Rattle.std.proofs.Common.{◌≡◌, ◌++◌, ap, ◌∙◌, arith}
use Rattle.std.specs.Prelude.{codes}
use Rattle.tree_pictures.specs.Svg.{hundreds}
use Rattle.tree_pictures.proofs.Puts.{five_put}
use Rattle.tree_pictures.proofs.svg.put_start.Goals as goal

pub returns-clause-put : goal.returns-clause-put
returns-clause-put c =
    let height_is : c.from.result ≡ c.args.height = omega arith in
    five_put c.put-3.result c.args.text.now (codes "<svg xmlns=\"http://www.w3.org/2000/svg\" viewBox=\"-100 -50 ") (hundreds c.args.width) (codes " ")
    (hundreds c.args.height)
    (codes "\" font-family=\"monospace\" font-size=\"8\" text-anchor=\"middle\">\n<style>rect,path{fill:white;stroke:black}</style>\n")
    c.put-3.new.self c.in_ok-put.ensures.put c.in_ok-put_hundreds.ensures.put c.in_ok-put-2.ensures.put
    (c.in_ok-put_hundreds-2.ensures.put ∙ ap (λ n. c.put-2.new.self ++ hundreds n) height_is) c.put-3.ensures.put
