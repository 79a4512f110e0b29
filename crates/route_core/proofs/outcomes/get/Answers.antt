use Rattle.std.proofs.Common.{ap, ◌∙◌}
use Rattle.sock_addrs.specs.Errno.{is_no_memory}
use Rattle.route_ops.proofs.MemoryThere.{showing_has_memory}
use Rattle.route_core.proofs.outcomes.get.Goals as goal

pub returns-in-Err-clause-memory : goal.returns-in-Err-clause-memory
returns-in-Err-clause-memory c =
    ap is_no_memory c.in-Err.ensures.shown ∙ showing_has_memory c.args.destination c.begin-visits.new.self.entries
