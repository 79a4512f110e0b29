use Rattle.std.proofs.Common.{◌∙◌, ◌+◌, ◌++◌, ◌∷◌, ap, sym, inl, rules, take}
use Rattle.std.proofs.lemmas.List.{take_rest}
use Rattle.line_reader.proofs.Parting.{cut_at, line_uncut}
use Rattle.lab_main.proofs.texts.cut_line.Goals as goal

pub returns-in-Some-clause-whole : goal.returns-in-Some-clause-whole
returns-in-Some-clause-whole c = (cut_at c.args.text.now c.in-Some.at (search rules)).1

pub returns-in-Some-clause-parts : goal.returns-in-Some-clause-parts
returns-in-Some-clause-parts c =
    let text = c.args.text.now in
    let at = c.in-Some.at in
    inl ((cut_at text at (search rules)).2 ∙ ap (λ l. take at text ++ 10 ∷ l) (sym (take_rest text (at + 1))))

pub returns-in-None-clause-whole : goal.returns-in-None-clause-whole
returns-in-None-clause-whole c = line_uncut c.args.text.now (search rules)
