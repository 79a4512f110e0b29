use Rattle.route_ops.proofs.AnswerThere.{answer_is_there}
use Rattle.route_ops.proofs.laws.answer_is_there.Goals as goal

pub returns : goal.returns
returns c = answer_is_there
