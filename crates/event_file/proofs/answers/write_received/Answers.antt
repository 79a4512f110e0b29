use Rattle.std.proofs.Common.{arith}
use Rattle.std.proofs.lemmas.Result.{on_err_weaker}
use Rattle.route_msgs.proofs.PutAddresses.{put_behind}
use Rattle.event_file.specs.Answers.{last_line}
use Rattle.event_file.proofs.Fronts.{KeptBack-stopped, WroteFront-more, on_err}
use Rattle.event_file.proofs.answers.write_received.Goals as goal

pub returns-in_err-kept-clause-err : goal.returns-in_err-kept-clause-err
returns-in_err-kept-clause-err g c =
    on_err c.from_residual.result (WroteFront-more (last_line c.args.left_out) c.in_err-kept.ensures.err)

pub returns-clause-err : goal.returns-clause-err
returns-clause-err g c =
    let last = last_line c.args.left_out in
    let put = c.put_last-end in
    let whole = put_behind c.in_ok-kept.kept last c.write_messages.new.buffer put.new.out put.result (omega (arith, c.in_ok-kept.ensures.most)) put.ensures.end put.ensures.text in
    on_err_weaker c.write_bytes.result (λ p. KeptBack-stopped last c.in_ok-kept.ensures.ok (rw whole at p)) c.write_bytes.ensures.err
