use Rattle.route_ops.proofs.TablesStay.{address_route_is_of, kept_stays, with_stays, without_stays}
use Rattle.route_ops.proofs.laws.tables_stay.Goals as goal

pub returns : goal.returns
returns c = record { with = with_stays; without = without_stays; kept = kept_stays; address = address_route_is_of }
