use Rattle.std.proofs.Common.{◌≡◌, ◌∙◌, ◌++◌, ap, sym, append-nil, rules}
use Rattle.std.specs.Prelude.{codes}
use Rattle.line_reader.proofs.Parting.{is_begun}
use Rattle.lab_main.proofs.Indenting.{four, indented-line, indented-nil, none_left}
use Rattle.lab_main.specs.Texts.{indented}
use Rattle.lab_main.proofs.texts.put_indented.Goals as goal

pub loop-rest-preserved : goal.loop-rest-preserved
loop-rest-preserved c =
    let text = c.loop-rest.text in
    let rest = c.loop-rest.rest.now in
    let line = c.cut_line.result.0.now in
    let behind = c.cut_line.result.1.now in
    let put : c.put-in-loop-rest-2.new.self ≡ ((text ++ codes "    ") ++ line) ++ codes "\n" = search rules in
    record {
      text = ap (λ t. t ++ indented behind) put ∙ four text (codes "    ") line (codes "\n") (indented behind)
          ∙ ap (λ t. text ++ t) (sym (indented-line rest line behind (is_begun rest (search rules)) c.cut_line.ensures.whole c.cut_line.ensures.parts))
          ∙ c.loop-rest.invariant.text;
      memory = search rules;
    }

pub returns-clause-put : goal.returns-clause-put
returns-clause-put c =
    let text = c.loop-rest.text in
    let none = none_left c.loop-rest.rest.now (search rules) in
    sym (ap (λ l. text ++ indented l) none ∙ ap (λ l. text ++ l) indented-nil ∙ append-nil text) ∙ c.loop-rest.invariant.text
