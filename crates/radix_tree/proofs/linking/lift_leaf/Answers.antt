use Rattle.radix_tree.proofs.{RoomReads.Has-leaf_at, RoomReads.leaf_lifted, Words.◌∙◌}
use Rattle.radix_tree.proofs.linking.lift_leaf.Goals as goal

pub links-requires-clause-there : goal.links-requires-clause-there
links-requires-clause-there g c = Has-leaf_at c.requires.tree.1

pub put_leaf-requires-clause-there : goal.put_leaf-requires-clause-there
put_leaf-requires-clause-there g c = Has-leaf_at c.requires.tree.1

pub returns-clause-leaves : goal.returns-clause-leaves
returns-clause-leaves g c n =
    c.put_leaf.ensures.leaves n ∙ leaf_lifted c.requires.tree.1 c.links.result.now c.args.above n c.links.ensures.links c.leaf-leaf.ensures
