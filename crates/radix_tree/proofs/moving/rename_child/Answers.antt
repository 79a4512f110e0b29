use Rattle.radix_tree.proofs.RoomReads.{node_changed, Has-bit}
use Rattle.radix_tree.proofs.Words.{◌∙◌, Some, inl, inr, sym, ap, subst, BitNode, Has, put_bit, rename, with_renamed, bits_in, arith}
use Rattle.radix_tree.proofs.moving.rename_child.Goals as goal

pub bit_node-node-requires-clause-used : goal.bit_node-node-requires-clause-used
bit_node-node-requires-clause-used g c = c.requires.used c.in-Some.up c.in-Some.is

pub renamed-zero-requires-clause-there : goal.renamed-zero-requires-clause-there
renamed-zero-requires-clause-there g c room is = c.requires.beneath c.in-Some.up c.in-Some.is _ c.bit_node-node.ensures.node.said room (inl is)

pub renamed-one-requires-clause-there : goal.renamed-one-requires-clause-there
renamed-one-requires-clause-there g c room is = subst (λ r. Has r.lodged room) (sym c.renamed-zero.ensures.stays)
    (c.requires.beneath c.in-Some.up c.in-Some.is _ c.bit_node-node.ensures.node.said room (inr is))

pub put_bit_node-requires-clause-there : goal.put_bit_node-requires-clause-there
put_bit_node-requires-clause-there g c =
    let u = c.requires.used c.in-Some.up c.in-Some.is in
    subst (λ r. Has r.lodged c.in-Some.up) (sym (c.renamed-one.ensures.stays ∙ c.renamed-zero.ensures.stays))
    (Has-bit c.args.nodes.now.lodged c.in-Some.up u.said u.block)

pub returns-clause-bits : goal.returns-clause-bits
returns-clause-bits g c n =
    let node : BitNode = record c.bit_node-node.result { zero = c.renamed-zero.result; one = c.renamed-one.result } in
    c.put_bit_node.ensures.bits n ∙ ap (λ r. put_bit c.in-Some.up (Some node) n (bits_in r.lodged n))
    (c.renamed-one.ensures.stays ∙ c.renamed-zero.ensures.stays) ∙ node_changed c.args.nodes.now.lodged node (with_renamed c.args.from c.args.to) n
    c.bit_node-node.ensures.node (search arith) ∙ ap (λ o. rename o c.args.from c.args.to n (bits_in c.args.nodes.now.lodged n)) (sym c.in-Some.is)
