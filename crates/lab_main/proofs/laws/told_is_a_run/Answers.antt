use Rattle.lab_main.proofs.Running.{run_of}
use Rattle.lab_main.proofs.laws.told_is_a_run.Goals as goal

pub returns : goal.returns
returns c = run_of
