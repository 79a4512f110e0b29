use Rattle.event_file.proofs.ResponseLines.{response-ends}
use Rattle.event_file.proofs.laws.responses_end_in_a_newline.Goals as goal

pub returns : goal.returns
returns c = response-ends
