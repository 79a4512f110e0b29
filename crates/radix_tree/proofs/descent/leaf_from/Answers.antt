use Rattle.radix_tree.proofs.Descents.{led_on}
use Rattle.radix_tree.proofs.descent.leaf_from.Goals as goal

pub leaf_for-requires-clause-tree : goal.leaf_for-requires-clause-tree
leaf_for-requires-clause-tree g c = let o = c.node_from-from.ensures.on_way c.requires.whole in (o.part, o.named)

pub returns-clause-leaf : goal.returns-clause-leaf
returns-clause-leaf g c w = let o = c.node_from-from.ensures.on_way w in led_on o (c.leaf_for.ensures.leaf o.part o.named)
