use Rattle.radix_tree.proofs.RoomReads.{Has-bit}
use Rattle.radix_tree.proofs.roles.bit_node.Goals as goal

pub links-requires-clause-there : goal.links-requires-clause-there
links-requires-clause-there g c = search (Has-bit)
