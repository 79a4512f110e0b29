use Rattle.std.proofs.Common.{◌≡◌, subst, sym}
use Rattle.line_faults.specs.Faults.{fault_behind}
use Rattle.line_faults.proofs.faults.fault_behind.Goals as goal

pub returns-in-Route : goal.returns-in-Route
returns-in-Route c =
    subst (λ v. c.fault_of_options.result ≡ fault_behind v c.args.place c.args.words.now) (sym c.in-Route.is) c.fault_of_options.ensures
