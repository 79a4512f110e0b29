use Rattle.std.proofs.Common.{◌++◌, codes}
use Rattle.std.proofs.lemmas.Result.{on_err_weaker}
use Rattle.hex.specs.Hex.{encode_lower}
use Rattle.event_file.proofs.Fronts.{Wrote-then, WroteFront-then, WroteFront-more, on_err}
use Rattle.event_file.proofs.answers.write_long_message.Goals as goal

pub returns-in_err-write_bytes-clause-err : goal.returns-in_err-write_bytes-clause-err
returns-in_err-write_bytes-clause-err g c =
    on_err c.from_residual.result (WroteFront-more (encode_lower c.args.message.now ++ codes "\n") c.in_err-write_bytes.ensures.err)

pub returns-in_err-write_hex-clause-err : goal.returns-in_err-write_hex-clause-err
returns-in_err-write_hex-clause-err g c =
    on_err c.from_residual-in_err-write_hex.result (WroteFront-more (codes "\n") (WroteFront-then c.in_ok-write_bytes.ensures.ok c.in_err-write_hex.ensures.err))

pub returns-clause-err : goal.returns-clause-err
returns-clause-err g c =
    let before = Wrote-then c.in_ok-write_bytes.ensures.ok c.in_ok-write_hex.ensures.ok in
    on_err_weaker c.write_bytes-2.result (λ p. WroteFront-then before p) c.write_bytes-2.ensures.err
