use Rattle.radix_tree.proofs.moving.renamed.Goals as goal

pub same-requires-clause-a : goal.same-requires-clause-a
same-requires-clause-a g c = c.requires.there c.in-Bit.room c.in-Bit.is
