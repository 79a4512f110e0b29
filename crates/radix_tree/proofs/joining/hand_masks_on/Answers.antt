use Rattle.radix_tree.proofs.JoinLists.{append_ready, sibling_node, bit_handed, clear_ready, leaf_side_handed}
use Rattle.radix_tree.proofs.Words.{◌∙◌, arith}
use Rattle.radix_tree.proofs.joining.hand_masks_on.Goals as goal

pub append-requires-clause-node : goal.append-requires-clause-node
append-requires-clause-node g c = let r = c.requires.lone in sibling_node r.2 c.in-Bit.room r.3 (r.4 ∙ c.in-Bit.is)

pub append-requires-clause-list : goal.append-requires-clause-list
append-requires-clause-list g c = let r = c.requires.lone in append_ready r.2 c.in-Bit.room r.3 (r.4 ∙ c.in-Bit.is) r.5 r.7

pub clear-requires-clause-list : goal.clear-requires-clause-list
clear-requires-clause-list g c = let r = c.requires.lone in clear_ready r.3 r.5 r.7

pub returns-in-Bit-clause-handed : goal.returns-in-Bit-clause-handed
returns-in-Bit-clause-handed g c whole at up l named head unmarked lists =
    bit_handed c.args.nodes.now.lodged c.append.new.nodes.lodged whole up c.in-Bit.room l (named ∙ c.in-Bit.is) head unmarked lists (search arith)

pub returns-in-Leaf-clause-handed : goal.returns-in-Leaf-clause-handed
returns-in-Leaf-clause-handed g c whole at up l named head unmarked lists =
    leaf_side_handed c.args.nodes.now.lodged c.clear.new.nodes.lodged up c.args.first l (named ∙ c.in-Leaf.is) head lists (search arith)
