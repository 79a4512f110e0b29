use Rattle.std.proofs.Common.{ap, ◌∙◌}
use Rattle.sock_addrs.specs.Errno.{is_no_memory}
use Rattle.route_ops.proofs.MemoryThere.{locking_has_memory}
use Rattle.route_core.proofs.outcomes.lock.Goals as goal

pub returns-in-Err-clause-memory : goal.returns-in-Err-clause-memory
returns-in-Err-clause-memory c = ap is_no_memory c.in-Err.ensures.lock
    ∙ locking_has_memory c.args.destination c.args.netmask c.args.inits c.args.locks c.args.table.now.entries
