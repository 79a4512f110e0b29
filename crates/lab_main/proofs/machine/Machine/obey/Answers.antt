use Rattle.std.proofs.Common.{subst}
use Rattle.std.specs.Prelude.{OnOk}
use Rattle.lab_main.specs.Telling.{Obeys, Point}
use Rattle.lab_main.proofs.machine.Machine.obey.Goals as goal

pub returns-clause-obeys : goal.returns-clause-obeys
returns-clause-obeys c = subst (λ (m : Point). OnOk c.obey.result
    (Obeys m.world c.args.line.now c.args.body.now c.obey.new.body c.obey.new.world m.refused c.obey.new.refusals)) c.self.view_is c.obey.ensures.obeys
