use Rattle.room_index.proofs.places.Places.grow.Goals as goal

pub returns-then-many-eq0-clause-told : goal.returns-then-many-eq0-clause-told
returns-then-many-eq0-clause-told g c e at = c.requires.told e (c.begin.ensures.same.had e at)
