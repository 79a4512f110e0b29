use Rattle.event_file.proofs.TranscriptLemmas.{response-is_computed}
use Rattle.event_file.proofs.laws.response_is_computed.Goals as goal

pub returns : goal.returns
returns c = response-is_computed
