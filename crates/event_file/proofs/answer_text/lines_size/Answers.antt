use Rattle.std.proofs.Common.{◌+◌, length, drop, arith, length-drop, length-append, ap, ◌∙◌}
use Rattle.std.proofs.lemmas.List.{drop-drop}
use Rattle.route_core.specs.Received.{cut}
use Rattle.event_file.specs.Answers.{message_line}
use Rattle.event_file.proofs.Fronts.{rest_is}
use Rattle.event_file.proofs.MessageLines.{lines}
use Rattle.event_file.proofs.PutMessages.{length-message_line}
use Rattle.event_file.proofs.answer_text.lines_size.Goals as goal

pub loop-at-preserved : goal.loop-at-preserved
loop-at-preserved c =
    let at = c.loop-at.at in
    let m = c.first_message-message.result.now in
    let left = drop (at + length m) c.args.bytes.now in
    let first = rw (rest_is, drop-drop) at c.first_message-message.ensures.messages in
    let whole = rw (rest_is, drop-drop) at c.first_message-message.ensures.rest in
    let fits = rw rest_is at c.first_message-message.ensures.fits in
    let some = c.first_message-message.ensures.longer in
    let sum = ap (λ ms. length (lines ms)) first ∙ length-append (message_line m) (lines (cut left)) in
    let one = length-message_line m in
    let (here, messages, so_far, most) = c.loop-at.invariant in
    (omega (arith, length-drop at c.args.bytes.now), whole, omega arith, omega arith)
