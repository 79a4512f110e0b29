use Rattle.std.proofs.Common.{arith}
use Rattle.mask_table.proofs.RankSets.{none_below, is_within, greatest_below}
use Rattle.mask_table.proofs.ranks.Ranks.greatest_below.Goals as goal

pub returns-then-below-eq0 : goal.returns-then-below-eq0
returns-then-below-eq0 c = rw (← c.self.view_is) (none_below c.self.inside.bits c.args.number c.requires c.if-below-eq0.true)

pub overflow_sub-number : goal.overflow_sub-number
overflow_sub-number c = omega (arith, is_within c.self.inside.bits c.args.number c.requires (grind arith) c.self.invariant (omega (arith, c.if-below-eq0.false)))

pub overflow_sub-number-2 : goal.overflow_sub-number-2
overflow_sub-number-2 c = omega (arith, is_within c.self.inside.bits c.args.number c.requires (grind arith) c.self.invariant (omega (arith, c.if-below-eq0.false)))

pub returns : goal.returns
returns c = rw (c.new.ensures, ← c.self.view_is)
    (greatest_below c.self.inside.bits c.args.number c.requires (grind arith) c.self.invariant (omega (arith, c.if-below-eq0.false)))
