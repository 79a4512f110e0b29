use Rattle.event_file.proofs.Fronts.{WroteFront-then, WroteFront-more}
use Rattle.show_main.proofs.ShownLemmas.{ShowedFront-stopped, by_error}
use Rattle.show_main.proofs.lines.show_line.Goals as goal

pub returns-in_err-write_bytes-in-None-clause-fault : goal.returns-in_err-write_bytes-in-None-clause-fault
returns-in_err-write_bytes-in-None-clause-fault g c =
    by_error c.from_residual-in_err-write_bytes-in-None.result c.from_residual-in_err-write_bytes-in-None.ensures.1
    (λ f is. ShowedFront-stopped f is (rw (← c.in_ok-message.ensures.message, c.in-None.is) (WroteFront-more c.args.end.now c.in_err-write_bytes-in-None.ensures.err)))

pub returns-in_err-write_bytes-in-None-2-clause-fault : goal.returns-in_err-write_bytes-in-None-2-clause-fault
returns-in_err-write_bytes-in-None-2-clause-fault g c =
    by_error c.from_residual-in_err-write_bytes-in-None-2.result c.from_residual-in_err-write_bytes-in-None-2.ensures.1
    (λ f is. ShowedFront-stopped f is (rw (← c.in_ok-message.ensures.message, c.in-None.is) (WroteFront-then c.in_ok-write_bytes-in-None.ensures.ok c.in_err-write_bytes-in-None-2.ensures.err)))
