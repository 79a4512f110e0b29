use Rattle.radix_tree.proofs.{MovedReads.Has-kept, JoinSides.below_stays, Words.arith}
use Rattle.radix_tree.proofs.joining.join.Goals as goal

pub name_child-requires-clause-tree : goal.name_child-requires-clause-tree
name_child-requires-clause-tree g c over is = c.requires.above over is

pub put_bit_node-requires-clause-there : goal.put_bit_node-requires-clause-there
put_bit_node-requires-clause-there g c = Has-kept c.requires.up c.name_child.new.nodes.lodged c.name_child.ensures.only.leaves

pub lift-requires-clause-tree : goal.lift-requires-clause-tree
lift-requires-clause-tree g c =
    let b = c.requires.beneath in
    below_stays c.args.nodes.now.lodged c.name_child.new.nodes.lodged c.put_bit_node.new.nodes.lodged b.0 c.args.up c.args.address c.args.to b.1 b.2
    c.name_child.ensures.only.leaves c.put_bit_node.ensures.leaves c.name_child.ensures.bits c.put_bit_node.ensures.bits

pub returns-clause-leaves : goal.returns-clause-leaves
returns-clause-leaves g c n = search arith

pub returns-clause-bits : goal.returns-clause-bits
returns-clause-bits g c n = search arith

pub returns-clause-heads : goal.returns-clause-heads
returns-clause-heads g c n = search arith

pub returns-clause-masks : goal.returns-clause-masks
returns-clause-masks g c n = search arith
