use Rattle.radix_tree.proofs.{RoomReads.leaves_kept, RoomReads.bits_kept, RoomReads.heads_kept, RoomReads.masks_put, Words.arith, Words.ap}
use Rattle.radix_tree.proofs.linking.put_mask_node.Goals as goal

pub returns-clause-tree : goal.returns-clause-tree
returns-clause-tree g c = record {
  leaves = leaves_kept c.with_mask_node.result c.links-links.result.now c.requires.there (ap (λ r. r.lodged) c.set_links.ensures)
      c.links-links.ensures.links c.with_mask_node.ensures.leaf;
  bits = bits_kept c.requires.there c.with_mask_node.result c.links-links.result.now (ap (λ r. r.lodged) c.set_links.ensures) c.links-links.ensures.links
      c.with_mask_node.ensures.bit_node;
}

pub returns-clause-heads : goal.returns-clause-heads
returns-clause-heads g c = heads_kept c.requires.there c.with_mask_node.result c.links-links.result.now (ap (λ r. r.lodged) c.set_links.ensures)
    c.links-links.ensures.links c.with_mask_node.ensures.bit_node

pub returns-clause-masks : goal.returns-clause-masks
returns-clause-masks g c = grind (arith, masks_put)
