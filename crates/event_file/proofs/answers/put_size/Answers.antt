use Rattle.std.proofs.Common.{[], ◌∷◌, ◌∙◌, arith}
use Rattle.std.specs.Prelude.{decimal}
use Rattle.event_file.proofs.PutMessages.{pasted_thrice}
use Rattle.event_file.proofs.answers.put_size.Goals as goal

pub returns-clause-text : goal.returns-clause-text
returns-clause-text c =
    let is = c.as_bytes.ensures.value ∙ c.format.ensures.text in
    let short = rw c.format.ensures.text at c.format.ensures.fits in
    pasted_thrice 0 (115 ∷ 105 ∷ 122 ∷ 101 ∷ 32 ∷ []) (decimal c.args.size) (10 ∷ []) c.args.out.now _ _ _ _ _
    (omega (arith, short, c.requires)) c.put-at.ensures.end (rw is at c.put-at-2.ensures.end) c.put-at.ensures.text (rw is at c.put-at-2.ensures.text) c.put.ensures.text
