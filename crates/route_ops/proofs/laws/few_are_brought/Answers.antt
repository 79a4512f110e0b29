use Rattle.route_ops.proofs.Few.{adding_brings_two, changing_brings_one, deep_look_brings_two, locking_brings_none, look_brings_one, losing_brings_none, redirect_brings_two, settling_brings_one}
use Rattle.route_ops.proofs.laws.few_are_brought.Goals as goal

pub returns : goal.returns
returns c = record {
  look_up = look_brings_one;
  deep_look_up = deep_look_brings_two;
  settle_gateway = settling_brings_one;
  request_add = adding_brings_two;
  request_change = changing_brings_one;
  request_lock = locking_brings_none;
  redirect = redirect_brings_two;
  losing = losing_brings_none;
}
