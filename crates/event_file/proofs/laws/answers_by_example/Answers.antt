use Rattle.std.proofs.Common.{refl}
use Rattle.std.specs.Fmt.{digits}
use Rattle.hex.specs.Hex.{encode_with}
use Rattle.event_file.proofs.laws.answers_by_example.Goals as goal

pub returns-clause-routed : goal.returns-clause-routed
unfolding digits encode_with
returns-clause-routed c = refl

pub returns-clause-dropped : goal.returns-clause-dropped
unfolding digits encode_with
returns-clause-dropped c = refl

pub returns-clause-size : goal.returns-clause-size
unfolding digits encode_with
returns-clause-size c = refl

pub returns-clause-left_out : goal.returns-clause-left_out
unfolding digits encode_with
returns-clause-left_out c = refl
