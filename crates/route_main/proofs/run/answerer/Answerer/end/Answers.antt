use Rattle.route_main.proofs.ProgressLemmas.{StopsWithin-kept}
use Rattle.route_main.proofs.run.answerer.Answerer.end.Goals as goal

pub returns-in_default-clause-err : goal.returns-in_default-clause-err
returns-in_default-clause-err g c = StopsWithin-kept c.in_ok-answer_last.ensures.ok c.flush.ensures.bytes
