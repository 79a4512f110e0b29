use Rattle.radix_tree.proofs.Walks.{Has-here, next_on, last_of, first_of_key}
use Rattle.radix_tree.proofs.walk.place_after.Goals as goal

pub links-requires-clause-there : goal.links-requires-clause-there
links-requires-clause-there g c = Has-here _ c.requires.at

pub place_behind-requires-clause-first : goal.place_behind-requires-clause-first
place_behind-requires-clause-first g c = search (first_of_key)

pub returns-in-Some-clause-on : goal.returns-in-Some-clause-on
returns-in-Some-clause-on g c = (next_on c.requires.at c.links.result.now c.links.ensures.links c.leaf-leaf.ensures c.in-Some.is).on

pub returns-in-Some-clause-rest : goal.returns-in-Some-clause-rest
returns-in-Some-clause-rest g c = (next_on c.requires.at c.links.result.now c.links.ensures.links c.leaf-leaf.ensures c.in-Some.is).rest

pub returns-in-None-clause-rest : goal.returns-in-None-clause-rest
returns-in-None-clause-rest g c =
    last_of c.args.place c.requires.at c.links.result.now c.place_behind.result c.links.ensures.links c.leaf-leaf.ensures c.in-None.is
    c.place_behind.ensures.rest
