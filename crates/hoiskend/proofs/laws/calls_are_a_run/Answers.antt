use Rattle.hoiskend.proofs.CallsRun.{calls_run}
use Rattle.hoiskend.proofs.laws.calls_are_a_run.Goals as goal

pub returns : goal.returns
returns c = calls_run
