use Rattle.room_index.proofs.tests.Trial.enter.Goals as goal

pub enter-requires-clause-absent : goal.enter-requires-clause-absent
enter-requires-clause-absent c other names = c.in-None.ensures.found other (c.vacancy-vacancy.ensures.keeps.fewer _ other names)
