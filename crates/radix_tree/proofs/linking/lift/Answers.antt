use Rattle.radix_tree.proofs.{Parts.fork_named, Parts.leaf_named, Words.◌∙◌}
use Rattle.radix_tree.proofs.linking.lift.Goals as goal

pub lift_leaf-requires-clause-tree : goal.lift_leaf-requires-clause-tree
lift_leaf-requires-clause-tree g c = let t = c.requires.tree in (t.0, leaf_named t.0 (t.1 ∙ c.in-Leaf.is))

pub lift_bit_node-requires-clause-tree : goal.lift_bit_node-requires-clause-tree
lift_bit_node-requires-clause-tree g c = let t = c.requires.tree in (t.0, fork_named t.0 (t.1 ∙ c.in-Bit.is))
