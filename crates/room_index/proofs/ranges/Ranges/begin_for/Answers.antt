use Rattle.room_index.proofs.ranges.Ranges.begin_for.Goals as goal

pub returns-then-is_reserved-clause-fewer : goal.returns-then-is_reserved-clause-fewer
returns-then-is_reserved-clause-fewer g c e has = absurd (c.begin.ensures.none e has)
