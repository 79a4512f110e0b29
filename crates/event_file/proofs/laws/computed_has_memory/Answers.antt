use Rattle.event_file.proofs.CauseLemmas.{computed_has_memory}
use Rattle.event_file.proofs.laws.computed_has_memory.Goals as goal

pub returns : goal.returns
returns c = computed_has_memory c.effects_have_memory.ensures c.left_out_for_room.ensures
