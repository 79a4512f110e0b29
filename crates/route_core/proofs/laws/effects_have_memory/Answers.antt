use Rattle.route_core.proofs.RefusalsSpare.{effects_have_memory}
use Rattle.route_core.proofs.laws.effects_have_memory.Goals as goal

pub returns : goal.returns
returns c = effects_have_memory
