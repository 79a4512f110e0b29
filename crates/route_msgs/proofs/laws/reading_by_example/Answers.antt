use Rattle.std.proofs.Common.{refl}
use Rattle.route_msgs.specs.Layout.{number_at}
use Rattle.route_msgs.specs.Slots.{offset_of}
use Rattle.route_msgs.proofs.laws.reading_by_example.Goals as goal

pub returns-clause-question : goal.returns-clause-question
unfolding number_at offset_of
returns-clause-question c = (refl, refl, refl, refl, refl)

pub returns-clause-bare : goal.returns-clause-bare
unfolding number_at offset_of
returns-clause-bare c = (refl, refl, refl, refl, refl)

pub returns-clause-short : goal.returns-clause-short
unfolding number_at offset_of
returns-clause-short c = (refl, refl, refl, refl, refl)

pub returns-clause-change : goal.returns-clause-change
unfolding number_at offset_of
returns-clause-change c = (refl, refl, refl, refl, refl)
