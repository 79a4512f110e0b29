use Rattle.radix_tree.proofs.{Climbs.used, RoomReads.node_changed, Parts.Has-fork}
use Rattle.radix_tree.proofs.Words.{◌∙◌, sym, ap, refl, name_child, with_child, bits_in}
use Rattle.radix_tree.proofs.linking.name_child.Goals as goal

pub bit_node-node-requires-clause-used : goal.bit_node-node-requires-clause-used
bit_node-node-requires-clause-used g c = used (c.requires.tree c.in-Some.up c.in-Some.is).1

pub put_bit_node-requires-clause-there : goal.put_bit_node-requires-clause-there
put_bit_node-requires-clause-there g c = Has-fork (c.requires.tree c.in-Some.up c.in-Some.is).1

pub put_bit_node-requires-else-is_one-clause-there : goal.put_bit_node-requires-else-is_one-clause-there
put_bit_node-requires-else-is_one-clause-there g c = Has-fork (c.requires.tree c.in-Some.up c.in-Some.is).1

pub returns-then-is_one-clause-bits : goal.returns-then-is_one-clause-bits
returns-then-is_one-clause-bits g c n = c.put_bit_node.ensures.bits n
    ∙ node_changed _ (record c.bit_node-node.result { one = c.args.to }) (with_child c.args.address c.args.to) n c.bit_node-node.ensures.node
    (rw (sym c.is_one.ensures ∙ c.if-is_one.true) refl)
    ∙ ap (λ o. name_child o c.args.address c.args.to n (bits_in c.args.nodes.now.lodged n)) (sym c.in-Some.is)

pub returns-else-is_one-clause-bits : goal.returns-else-is_one-clause-bits
returns-else-is_one-clause-bits g c n = c.put_bit_node-else-is_one.ensures.bits n
    ∙ node_changed _ (record c.bit_node-node.result { zero = c.args.to }) (with_child c.args.address c.args.to) n c.bit_node-node.ensures.node
    (rw (sym c.is_one.ensures ∙ c.if-is_one.false) refl)
    ∙ ap (λ o. name_child o c.args.address c.args.to n (bits_in c.args.nodes.now.lodged n)) (sym c.in-Some.is)
