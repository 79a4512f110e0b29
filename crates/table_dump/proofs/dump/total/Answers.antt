use Rattle.table_dump.proofs.Showing.{ended}
use Rattle.table_dump.proofs.dump.total.Goals as goal

pub returns-clause-total : goal.returns-clause-total
returns-clause-total c = λ interfaces.
    ended c.args.filter interfaces c.loop-rank.total _ c.loop-rank.walk.rest c.in_default.ensures.gives c.loop-rank.invariant.most (c.loop-rank.invariant.sum interfaces)
