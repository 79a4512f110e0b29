use Rattle.radix_tree.proofs.{Climbs.used, RoomReads.node_changed, RoomReads.head_kept, Parts.Has-fork, Words.◌∙◌, Words.refl, Words.bit_above}
use Rattle.radix_tree.proofs.linking.lift_bit_node.Goals as goal

pub bit_node-node-requires-clause-used : goal.bit_node-node-requires-clause-used
bit_node-node-requires-clause-used g c = used c.requires.tree.1

pub put_bit_node-requires-clause-there : goal.put_bit_node-requires-clause-there
put_bit_node-requires-clause-there g c = Has-fork c.requires.tree.1

pub returns-clause-bits : goal.returns-clause-bits
returns-clause-bits g c n = c.put_bit_node.ensures.bits n ∙ node_changed _ (record c.bit_node-node.result { above = c.args.above }) (bit_above c.args.above) n
    c.bit_node-node.ensures.node refl

pub returns-clause-only : goal.returns-clause-only
returns-clause-only g c = search (head_kept, c.put_bit_node.ensures.heads, c.args.room, c.bit_node-node.result, c.bit_node-node.ensures.node)
