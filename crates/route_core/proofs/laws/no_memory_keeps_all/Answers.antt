use Rattle.route_core.proofs.RefusalsSpare.{no_memory_keeps_all}
use Rattle.route_core.proofs.laws.no_memory_keeps_all.Goals as goal

pub returns : goal.returns
returns c = no_memory_keeps_all
