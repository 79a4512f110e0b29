use Rattle.radix_nodes.proofs.tests.+nest.Given as goal

abbrev pub decreases-nest : goal.decreases-nest
decreases-nest l = l.levels
