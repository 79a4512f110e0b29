use Rattle.std.proofs.Common.{[], ◌∷◌, arith}
use Rattle.hex.specs.Hex.{encode_lower, lower_digits}
use Rattle.hex.proofs.HexLemmas.{length-encode_with}
use Rattle.event_file.proofs.PutMessages.{pasted_thrice}
use Rattle.event_file.proofs.answer_text.put_line.Goals as goal

pub returns-clause-text : goal.returns-clause-text
returns-clause-text c =
    let digits = encode_lower c.args.message.now in
    let long = length-encode_with lower_digits c.args.message.now in
    let fits = c.requires in
    let end = c.put_hex-at.ensures.end in
    pasted_thrice c.args.at (109 ∷ 115 ∷ 103 ∷ 32 ∷ []) digits (10 ∷ []) c.args.out.now _ _ _ _ _
    (omega arith) c.put-at.ensures.end (omega arith) c.put-at.ensures.text c.put_hex-at.ensures.text c.put.ensures.text
