use Rattle.event_file.proofs.RunsTold.{run-is_transcript, transcript-is_run}
use Rattle.event_file.proofs.laws.transcript_is_run.Goals as goal

pub returns-clause-run : goal.returns-clause-run
returns-clause-run c = transcript-is_run

pub returns-clause-transcript : goal.returns-clause-transcript
returns-clause-transcript c = run-is_transcript
