use Rattle.std.proofs.Common.{◌∙◌, ap, arith, bytes_eq}
use Rattle.event_file.proofs.SameWords.{same}
use Rattle.event_file.proofs.words.is.Goals as goal

pub returns : goal.returns
returns c =
    let word = c.args.word.now in
    let text = c.as_bytes-text.result.now in
    same word text (omega arith) (λ k below. c.loop-at.invariant.1 k (omega (arith, below))) ∙ ap (bytes_eq word) c.as_bytes-text.ensures.value
