use Rattle.std.proofs.Common.{length, arith, ◌≤◌}
use Rattle.event_file.specs.Answers.{message_line}
use Rattle.event_file.proofs.Fronts.{KeptBack-all, KeptBack-behind, KeptBack-none, Wrote-then, WroteFront-more, on_err}
use Rattle.event_file.proofs.PutMessages.{line_behind}
use Rattle.event_file.proofs.answers.keep_line.Goals as goal

pub returns-in_err-write_bytes-clause-err : goal.returns-in_err-write_bytes-clause-err
returns-in_err-write_bytes-clause-err g c =
    on_err c.from_residual.result (WroteFront-more (message_line c.args.message.now) c.in_err-write_bytes.ensures.err)

pub returns-then-message-gt-MOST_PUT-clause-ok : goal.returns-then-message-gt-MOST_PUT-clause-ok
returns-then-message-gt-MOST_PUT-clause-ok g c = KeptBack-none (Wrote-then c.in_ok-write_bytes.ensures.ok c.in_ok-write_long_message.ensures.ok)

pub returns-then-end-message-le-MOST_KEPT-clause-ok : goal.returns-then-end-message-le-MOST_KEPT-clause-ok
returns-then-end-message-le-MOST_KEPT-clause-ok g c =
    let put = c.put_line in
    let fits : c.args.end ≤ length c.args.buffer.now = omega (arith, c.requires.end, c.requires.buffer) in
    rw (line_behind c.args.end c.args.message.now c.args.buffer.now put.new.out put.result fits put.ensures.end put.ensures.text) (KeptBack-all c.args.writer.now _)

pub returns-in_err-write_bytes-2-clause-err : goal.returns-in_err-write_bytes-2-clause-err
returns-in_err-write_bytes-2-clause-err g c =
    on_err c.from_residual-in_err-write_bytes-2.result (WroteFront-more (message_line c.args.message.now) c.in_err-write_bytes-2.ensures.err)

pub returns-clause-ok : goal.returns-clause-ok
returns-clause-ok g c =
    let put = c.put_line-2 in
    rw (line_behind 0 c.args.message.now c.args.buffer.now put.new.out put.result (omega arith) put.ensures.end put.ensures.text)
    (KeptBack-behind (message_line c.args.message.now) c.in_ok-write_bytes-2.ensures.ok)
