use Rattle.route_core.proofs.Counting.{counted_is_a_step, answer_has_a_cause, others_leave_the_count}
use Rattle.route_core.proofs.laws.no_memory_has_a_cause.Goals as goal

pub returns-clause-step : goal.returns-clause-step
returns-clause-step c = counted_is_a_step

pub returns-clause-cause : goal.returns-clause-cause
returns-clause-cause c = answer_has_a_cause

pub returns-clause-others : goal.returns-clause-others
returns-clause-others c = others_leave_the_count
