use Rattle.route_ops.proofs.Bringing.{none_less, none_more, none_own, one_more}
use Rattle.route_ops.proofs.laws.changes_bring.Goals as goal

pub returns : goal.returns
returns c = record { itself = none_own; with = one_more; anew = none_more; without = none_less }
