use Rattle.radix_tree.proofs.RoomReads.{Has-bit}
use Rattle.radix_tree.proofs.masks.put_masks.Goals as goal

pub put_bit_node-requires-clause-there : goal.put_bit_node-requires-clause-there
put_bit_node-requires-clause-there g c = search (Has-bit)
