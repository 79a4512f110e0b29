use Rattle.std.proofs.Common.{◌≡◌, None, sym, subst, arith}
use Rattle.std.specs.List.{All}
use Rattle.room_index.proofs.Ranging.{none_by_range, none_in}
use Rattle.room_index.proofs.ranges.Ranges.begin.Goals as goal

pub returns-then-fewer-clause-ranges : goal.returns-then-fewer-clause-ranges
returns-then-fewer-clause-ranges g c = none_by_range c.give_back.new.self (omega (arith, c.requires.bits, c.give_back.ensures.bits))
    (omega (arith, c.requires.bits, c.min-finer.ensures, c.give_back.ensures.bits, c.give_back.ensures.finer)) (subst (All (λ last. last ≡ None)) (sym c.give_back.ensures.last) c.fill.ensures.none)

pub returns-then-fewer-clause-none : goal.returns-then-fewer-clause-none
returns-then-fewer-clause-none g c e has =
    none_in c.give_back.new.self.last.items (subst (All (λ last. last ≡ None)) (sym c.give_back.ensures.last) c.fill.ensures.none) has.0 e has.1

pub returns-else-fewer-clause-ranges : goal.returns-else-fewer-clause-ranges
returns-else-fewer-clause-ranges g c = none_by_range _ c.requires.bits (omega (arith, c.requires.bits, c.min-finer.ensures)) c.fill.ensures.none

pub returns-else-fewer-clause-none : goal.returns-else-fewer-clause-none
returns-else-fewer-clause-none g c e has = none_in c.fill.new.last.items c.fill.ensures.none has.0 e has.1
