use Rattle.std.proofs.Common.{◌≡◌, ◌++◌, ap, ◌∙◌, arith}
use Rattle.std.specs.Prelude.{codes, decimal}
use Rattle.tree_pictures.proofs.Puts.{three_put}
use Rattle.tree_pictures.proofs.svg.put_bit.Goals as goal

pub returns-clause-put : goal.returns-clause-put
returns-clause-put c =
    let bit_is : c.from.result ≡ c.args.bit = omega arith in
    three_put c.put-2.result c.args.text.now (codes "<tspan x=\"0\" dy=\"10\">bit ") (decimal c.args.bit) (codes "</tspan>") c.put-2.new.self
    c.in_ok-put.ensures.put (c.in_ok-put_number.ensures.put ∙ ap (λ n. c.put.new.self ++ decimal n) bit_is) c.put-2.ensures.put
