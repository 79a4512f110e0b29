use Rattle.radix_tree.proofs.{RoomReads.leaves_kept, RoomReads.masks_kept, RoomReads.bits_put, RoomReads.heads_put, Words.arith, Words.ap}
use Rattle.radix_tree.proofs.linking.put_bit_node.Goals as goal

pub returns-clause-leaves : goal.returns-clause-leaves
returns-clause-leaves g c = leaves_kept c.with_bit_node.result c.links-links.result.now c.requires.there (ap (λ r. r.lodged) c.set_links.ensures)
    c.links-links.ensures.links c.with_bit_node.ensures.leaf

pub returns-clause-masks : goal.returns-clause-masks
returns-clause-masks g c = masks_kept c.requires.there c.with_bit_node.result c.links-links.result.now (ap (λ r. r.lodged) c.set_links.ensures)
    c.links-links.ensures.links c.with_bit_node.ensures.mask_node

pub returns-clause-bits : goal.returns-clause-bits
returns-clause-bits g c = grind (arith, bits_put)

pub returns-clause-heads : goal.returns-clause-heads
returns-clause-heads g c = grind (arith, heads_put)
