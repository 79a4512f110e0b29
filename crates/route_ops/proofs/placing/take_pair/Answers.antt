use Rattle.std.proofs.Common.{Some, sym, ◌∙◌}
use Rattle.if_addrs.specs.Interfaces.{IsOf}
use Rattle.radix_tree.proofs.MemberLemmas.{all_without}
use Rattle.radix_tree.proofs.TableLemmas.{without_absent}
use Rattle.route_ops.proofs.Taken.{none_taken, taken_is}
use Rattle.route_ops.proofs.placing.take_pair.Goals as goal

pub returns-in_default-clause-kept : goal.returns-in_default-clause-kept
returns-in_default-clause-kept c =
    let table = c.args.table.now.entries in
    c.remove.ensures.entries
    ∙ without_absent c.args.key c.args.rank table (none_taken c.args.key c.args.rank table (sym c.in_default.is ∙ c.remove.ensures.value))

pub returns-in_default-clause-of : goal.returns-in_default-clause-of
returns-in_default-clause-of c = λ interfaces are.
    rw c.remove.ensures.entries (all_without (λ r. IsOf r.value.ifa interfaces) c.args.key c.args.rank c.args.table.now.entries are)

pub returns-clause-taken : goal.returns-clause-taken
returns-clause-taken c =
    rw c.route.ensures
    (taken_is c.args.key c.args.rank c.args.table.now.entries (Some c.in-Some.value) (sym c.in-Some.is ∙ c.remove.ensures.value))

pub returns-clause-of : goal.returns-clause-of
returns-clause-of c = λ interfaces are.
    rw c.remove.ensures.entries (all_without (λ r. IsOf r.value.ifa interfaces) c.args.key c.args.rank c.args.table.now.entries are)
