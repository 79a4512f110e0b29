use Rattle.radix_tree.proofs.{Beside.Has-lodged_leaf, Beside.Has-again, Beside.lodged, Words.number_of, Words.arith}
use Rattle.radix_tree.proofs.inserting.lodge_forked.Goals as goal

pub put_leaf-requires-clause-there : goal.put_leaf-requires-clause-there
put_leaf-requires-clause-there g c =
    Has-lodged_leaf c.lodge_leaf-id.new.nodes.lodged c.lodge_leaf-id.result _ _ _ (c.lodge_leaf-id.ensures.leaves (number_of c.lodge_leaf-id.result))

pub put_bit_node-requires-clause-there : goal.put_bit_node-requires-clause-there
put_bit_node-requires-clause-there g c = Has-again c.lodge_leaf-id.new.nodes.lodged c.put_leaf.new.nodes.lodged c.lodge_leaf-id.result _ _ _ _
    (c.lodge_leaf-id.ensures.leaves (number_of c.lodge_leaf-id.result)) (c.put_leaf.ensures.leaves (number_of c.lodge_leaf-id.result))

pub returns-clause-lodged : goal.returns-clause-lodged
returns-clause-lodged g c =
    lodged c.args.nodes.now.lodged c.lodge_leaf-id.new.nodes.lodged c.put_leaf.new.nodes.lodged c.put_bit_node.new.nodes.lodged c.lodge_leaf-id.result
    c.args.entry c.lone_leaf.result c.lone_leaf-2.result c.forked_node-node.result _ (search arith)
    c.lodge_leaf-id.ensures.leaves c.lodge_leaf-id.ensures.only.bits c.put_leaf.ensures.leaves c.put_leaf.ensures.only.bits c.put_bit_node.ensures.leaves
    c.put_bit_node.ensures.bits c.lone_leaf-2.ensures c.forked_node-node.ensures.part

pub returns-clause-heads : goal.returns-clause-heads
returns-clause-heads g c n = search arith

pub returns-clause-masks : goal.returns-clause-masks
returns-clause-masks g c n = search arith
