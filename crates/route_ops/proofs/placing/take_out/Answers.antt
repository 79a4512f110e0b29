use Rattle.if_addrs.specs.Interfaces.{IsOf}
use Rattle.radix_tree.proofs.MemberLemmas.{all_without}
use Rattle.route_ops.proofs.Fitting.{keeps_free}
use Rattle.route_ops.proofs.placing.take_out.Goals as goal

pub returns-clause-free : goal.returns-clause-free
returns-clause-free c =
    keeps_free c.args.table.now c.remove.new.self c.remove.result c.remove.ensures.next c.remove.ensures.numbers c.remove.ensures.none

pub returns-clause-of : goal.returns-clause-of
returns-clause-of c = λ interfaces are.
    rw c.remove.ensures.entries (all_without (λ r. IsOf r.value.ifa interfaces) c.args.key c.args.rank c.args.table.now.entries are)
