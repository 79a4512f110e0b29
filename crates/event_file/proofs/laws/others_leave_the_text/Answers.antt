use Rattle.event_file.proofs.RunsTold.{others-leave_the_text}
use Rattle.event_file.proofs.laws.others_leave_the_text.Goals as goal

pub returns : goal.returns
returns c = others-leave_the_text c.others_do_not_disturb.ensures.same c.others_do_not_disturb.ensures.runs
