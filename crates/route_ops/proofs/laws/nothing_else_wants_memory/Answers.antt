use Rattle.route_ops.proofs.MemoryThere.{adding_has_memory, changing_has_memory, locking_has_memory, losing_has_memory, redirect_has_memory, showing_has_memory}
use Rattle.route_ops.proofs.laws.nothing_else_wants_memory.Goals as goal

pub returns : goal.returns
returns c = record {
  request_add = adding_has_memory;
  request_change = changing_has_memory;
  request_lock = locking_has_memory;
  request_get = showing_has_memory;
  redirect = redirect_has_memory;
  losing = losing_has_memory;
}
