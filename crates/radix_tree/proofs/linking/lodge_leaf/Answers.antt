use Rattle.radix_tree.proofs.{RoomReads.lodged_bits, RoomReads.lodged_heads, RoomReads.lodged_masks, RoomReads.lodged_leaves, Words.arith}
use Rattle.radix_nodes.proofs.Callers.{Has-lodged}
use Rattle.radix_tree.proofs.linking.lodge_leaf.Goals as goal

pub put_leaf-requires-clause-there : goal.put_leaf-requires-clause-there
put_leaf-requires-clause-there g c = rw c.lodge-id.ensures.lodged.2 (Has-lodged _ _ _ _)

pub returns-clause-leaves : goal.returns-clause-leaves
returns-clause-leaves g c =
    lodged_leaves c.args.nodes.now.lodged c.put_leaf.new.nodes.lodged c.lodge-id.result c.args.value c.lodge-id.ensures.lodged.0 c.args.leaf
    (grind arith)

pub returns-clause-only : goal.returns-clause-only
returns-clause-only g c = grind (arith, lodged_bits, lodged_heads, lodged_masks)
