use Rattle.radix_tree.proofs.{MovedReads.back_put, Words.arith}
use Rattle.radix_tree.proofs.chains.name_back.Goals as goal

pub links-requires-clause-there : goal.links-requires-clause-there
links-requires-clause-there g c = c.requires.there c.in-Some.room c.in-Some.is

pub put_leaf-requires-clause-there : goal.put_leaf-requires-clause-there
put_leaf-requires-clause-there g c = c.requires.there c.in-Some.room c.in-Some.is

pub returns-clause-leaves : goal.returns-clause-leaves
returns-clause-leaves g c n = search (arith, back_put)
