use Rattle.route_ops.proofs.TablesStay.{adding_stays, changing_stays, locking_stays, look_stays, losing_stays, redirect_stays}
use Rattle.route_ops.proofs.laws.calls_keep_tables.Goals as goal

pub returns : goal.returns
returns c = record {
  look_up = look_stays;
  request_add = adding_stays;
  request_change = changing_stays;
  request_lock = locking_stays;
  redirect = redirect_stays;
  losing = losing_stays;
}
