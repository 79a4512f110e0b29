use Rattle.radix_tree.proofs.Words.{sym}
use Rattle.radix_tree.proofs.masks.masks_of.Goals as goal

pub returns-clause-head : goal.returns-clause-head
returns-clause-head g c = sym c.bit_node.ensures.node.head
