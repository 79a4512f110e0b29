use Rattle.std.proofs.Common.{◌≡◌, ◌∙◌, ◌++◌, ℕ, List, ap, rules}
use Rattle.std.specs.Prelude.{codes}
use Rattle.line_faults.specs.Texts.{wanted_text}
use Rattle.lab_main.specs.Texts.{wrong_text}
use Rattle.lab_main.proofs.Indenting.{five}
use Rattle.lab_main.proofs.texts.put_second_wrong.Goals as goal

pub returns-clause-put : goal.returns-clause-put
returns-clause-put c =
    let t = c.args.text.now in
    let wrong = wrong_text c.args.word.now in
    let wanted = c.as_bytes.result.now in
    let is : wanted ≡ wanted_text c.args.wanted = search rules in
    c.in_ok-put-4.ensures.put
    ∙ ap (λ (x : List ℕ). x ++ codes "\n") (c.in_ok-put-3.ensures.put
    ∙ ap (λ (x : List ℕ). x ++ wanted) (c.in_ok-put-2.ensures.put
    ∙ ap (λ (x : List ℕ). x ++ codes "; wanted: ") (c.in_ok-put_wrong.ensures.put
    ∙ ap (λ (x : List ℕ). x ++ wrong) c.in_ok-put.ensures.put)))
    ∙ five t (codes "bad: word 2") wrong (codes "; wanted: ") wanted (codes "\n")
    ∙ ap (λ (w : List ℕ). t ++ (codes "bad: word 2" ++ wrong ++ codes "; wanted: " ++ w ++ codes "\n")) is
