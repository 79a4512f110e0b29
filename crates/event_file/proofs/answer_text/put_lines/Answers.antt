use Rattle.std.proofs.Common.{◌+◌, length, drop, arith, length-drop}
use Rattle.std.proofs.lemmas.List.{drop-drop}
use Rattle.event_file.proofs.Fronts.{rest_is}
use Rattle.event_file.proofs.PutMessages.{PutLines-more, PutLines-room}
use Rattle.event_file.proofs.answer_text.put_lines.Goals as goal

pub put_line-end-requires : goal.put_line-end-requires
put_line-end-requires c =
    let at = c.loop-at.at in
    let m = c.first_message-message.result.now in
    let first = rw (rest_is, drop-drop) at c.first_message-message.ensures.messages in
    let room = PutLines-room m (drop (at + length m) c.args.bytes.now) c.loop-at.invariant.1 first c.requires.room in
    let fits = room.0 in let same = room.1 in omega arith

pub loop-at-preserved : goal.loop-at-preserved
loop-at-preserved c =
    let at = c.loop-at.at in
    let m = c.first_message-message.result.now in
    let left = drop (at + length m) c.args.bytes.now in
    let first = rw (rest_is, drop-drop) at c.first_message-message.ensures.messages in
    let whole = rw (rest_is, drop-drop) at c.first_message-message.ensures.rest in
    let fits = rw rest_is at c.first_message-message.ensures.fits in
    (omega (arith, length-drop at c.args.bytes.now), rw c.put_line-end.ensures.end (PutLines-more m left c.put_line-end.new.out c.loop-at.invariant.1 first whole c.requires.room c.put_line-end.ensures.text))
