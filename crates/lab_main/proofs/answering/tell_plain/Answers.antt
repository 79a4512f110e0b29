use Rattle.std.proofs.Common.{◌≡◌, ◌∙◌, ◌≢◌, ◌++◌, ap, sym, rules}
use Rattle.plain_lines.specs.PlainLines.{plain_of}
use Rattle.lab_main.specs.Texts.{told_plainly}
use Rattle.lab_main.proofs.Commanding.{plainly_other}
use Rattle.lab_main.proofs.answering.tell_plain.Goals as goal

pub returns-clause-told : goal.returns-clause-told
returns-clause-told c =
    let line = c.args.line.now in
    let body = c.args.body.now in
    let differs : plain_of line ≢ line = search rules in
    let put : c.put_plainly.new.text ≡ body ++ told_plainly (plain_of line) = search rules in
    put ∙ ap (λ t. body ++ t) (sym (plainly_other line differs))
