use Rattle.event_file.proofs.TranscriptLemmas.{transcript_of-is}
use Rattle.event_file.proofs.laws.computed_is_transcript.Goals as goal

pub returns : goal.returns
returns c = transcript_of-is
