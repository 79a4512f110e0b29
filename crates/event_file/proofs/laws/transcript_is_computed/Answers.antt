use Rattle.event_file.proofs.TranscriptLemmas.{transcript-is_computed}
use Rattle.event_file.proofs.laws.transcript_is_computed.Goals as goal

pub returns : goal.returns
returns c = transcript-is_computed
