use Rattle.std.proofs.Common.{◌≡◌, ◌++◌, true, false, ap, ◌∙◌, arith}
use Rattle.std.specs.Prelude.{decimal}
use Rattle.tree_pictures.proofs.Puts.{down_put}
use Rattle.tree_pictures.proofs.steps.put_down.Goals as goal

pub returns-then-is_one-clause-put : goal.returns-then-is_one-clause-put
returns-then-is_one-clause-put c =
    let bit_is : c.from.result ≡ c.args.bit = omega arith in
    down_put c.put-then-is_one.result c.args.text.now c.put-then-is_one.new.self c.args.bit c.args.address true c.if-is_one.ensures c.in_ok-put.ensures.put
    (c.in_ok-put_number.ensures.put ∙ ap (λ n. c.put.new.self ++ decimal n) bit_is) c.in_ok-put-2.ensures.put c.in_ok-put_inet.ensures.put
    c.put-then-is_one.ensures.put

pub returns-else-is_one-clause-put : goal.returns-else-is_one-clause-put
returns-else-is_one-clause-put c =
    let bit_is : c.from.result ≡ c.args.bit = omega arith in
    down_put c.put-else-is_one.result c.args.text.now c.put-else-is_one.new.self c.args.bit c.args.address false c.if-is_one.ensures c.in_ok-put.ensures.put
    (c.in_ok-put_number.ensures.put ∙ ap (λ n. c.put.new.self ++ decimal n) bit_is) c.in_ok-put-2.ensures.put c.in_ok-put_inet.ensures.put
    c.put-else-is_one.ensures.put
