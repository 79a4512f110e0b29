use Rattle.std.proofs.Common.{refl}
use Rattle.route_msgs.specs.Layout.{with_field}
use Rattle.route_msgs.proofs.laws.writing_by_example.Goals as goal

pub returns-clause-announcement : goal.returns-clause-announcement
unfolding with_field
returns-clause-announcement c = refl

pub returns-clause-addition : goal.returns-clause-addition
unfolding with_field
returns-clause-addition c = refl

pub returns-clause-answer : goal.returns-clause-answer
unfolding with_field
returns-clause-answer c = refl

pub returns-clause-change : goal.returns-clause-change
unfolding with_field
returns-clause-change c = refl
