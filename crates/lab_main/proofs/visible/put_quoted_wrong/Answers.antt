use Rattle.std.proofs.Common.{◌≡◌, ◌∙◌, ◌++◌, ap}
use Rattle.std.specs.Prelude.{codes}
use Rattle.lab_main.specs.Texts.{visible}
use Rattle.lab_main.proofs.Indenting.{three}
use Rattle.lab_main.proofs.visible.put_quoted_wrong.Goals as goal

pub returns-clause-put : goal.returns-clause-put
returns-clause-put c =
    let text = c.args.text.now in
    let word = visible c.args.word.now in
    let put : c.put-2.new.self ≡ ((text ++ codes " (`") ++ word) ++ codes "`) is wrong" =
    c.in_ok-put-2.ensures.put ∙ ap (λ t. t ++ codes "`) is wrong") (c.in_ok-put_visible.ensures.put ∙ ap (λ t. t ++ word) c.in_ok-put.ensures.put) in
    put ∙ three text (codes " (`") word (codes "`) is wrong")
