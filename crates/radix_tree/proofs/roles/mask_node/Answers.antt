use Rattle.radix_tree.proofs.RoomReads.{Has-mask}
use Rattle.radix_tree.proofs.roles.mask_node.Goals as goal

pub links-links-requires-clause-there : goal.links-links-requires-clause-there
links-links-requires-clause-there g c = search (Has-mask)
