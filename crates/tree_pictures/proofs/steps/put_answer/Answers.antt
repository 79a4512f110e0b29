use Rattle.std.proofs.Common.{◌≡◌, ◌++◌, OnOk, sym, subst}
use Rattle.std.specs.Prelude.{codes}
use Rattle.event_file.specs.Printed.{inet_word}
use Rattle.tree_pictures.specs.Steps.{answer_line}
use Rattle.tree_pictures.proofs.Puts.{put_last}
use Rattle.tree_pictures.proofs.steps.put_answer.Goals as goal

pub returns-in_ok-put_inet-in-None-clause-put : goal.returns-in_ok-put_inet-in-None-clause-put
returns-in_ok-put_inet-in-None-clause-put c =
    subst (λ o. OnOk c.put.result (c.put.new.self ≡ c.args.text.now ++ answer_line c.args.address o)) (sym c.in-None.is) (
    put_last c.put.result c.args.text.now (inet_word c.args.address) (codes " has no route\n") c.put.new.self c.in_ok-put_inet-in-None.ensures.put c.put.ensures.put
    )
