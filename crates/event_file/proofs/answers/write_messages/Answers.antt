use Rattle.std.proofs.Common.{◌+◌, length, drop, arith, length-drop}
use Rattle.std.proofs.lemmas.List.{drop-drop}
use Rattle.event_file.proofs.Fronts.{on_err, rest_is}
use Rattle.event_file.proofs.MessageLines.{KeptMessages-more, KeptMessages-stopped}
use Rattle.event_file.proofs.answers.write_messages.Goals as goal

pub loop-at-preserved : goal.loop-at-preserved
loop-at-preserved g c =
    let at = c.loop-at.at in
    let m = c.first_message-message.result.now in
    let first = rw (rest_is, drop-drop) at c.first_message-message.ensures.messages in
    let left = rw (rest_is, drop-drop) at c.first_message-message.ensures.rest in
    let fits = rw rest_is at c.first_message-message.ensures.fits in (
      omega (arith, length-drop at c.args.bytes.now),
      c.in_ok-end.ensures.most,
      KeptMessages-more m (drop (at + length m) c.args.bytes.now) c.loop-at.invariant.2 first left c.in_ok-end.ensures.ok,
    )

pub returns-in_err-end-clause-err : goal.returns-in_err-end-clause-err
returns-in_err-end-clause-err g c =
    let m = c.first_message-message.result.now in
    let first = rw rest_is at c.first_message-message.ensures.messages in
    on_err c.from_residual.result (KeptMessages-stopped m (drop (length m) (drop c.loop-at.at c.args.bytes.now)) c.loop-at.invariant.2 first c.in_err-end.ensures.err)
