use Rattle.std.proofs.Common.{ap, refl}
use Rattle.show_main.specs.Faults.{failures_of}
use Rattle.show_main.proofs.ShownLemmas.{ShowedFront-none, by_error}
use Rattle.show_main.proofs.lines.show_ended.Goals as goal

pub returns-in_err-extend-clause-fault : goal.returns-in_err-extend-clause-fault
returns-in_err-extend-clause-fault g c =
    by_error c.from_residual.result c.from_residual.ensures.1
    (λ f is. ShowedFront-none f _ _ _ refl (ap failures_of is))
