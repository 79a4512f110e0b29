use Rattle.event_file.proofs.CauseLemmas.{computed_is_counted, counted_is_transcript, each_refusal_is_counted, unrefused_is_computed}
use Rattle.event_file.proofs.laws.each_refusal_is_counted.Goals as goal

pub returns-clause-transcript : goal.returns-clause-transcript
returns-clause-transcript c = counted_is_transcript

pub returns-clause-each : goal.returns-clause-each
returns-clause-each c = each_refusal_is_counted c.effects_have_memory.ensures c.left_out_for_room.ensures

pub returns-clause-unrefused : goal.returns-clause-unrefused
returns-clause-unrefused c = unrefused_is_computed c.effects_have_memory.ensures c.left_out_for_room.ensures

pub returns-clause-computed : goal.returns-clause-computed
returns-clause-computed c = computed_is_counted
