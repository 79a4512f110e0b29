use Rattle.radix_tree.proofs.{RoomReads.bits_kept, RoomReads.heads_kept, RoomReads.masks_kept, RoomReads.leaves_put, Words.arith, Words.ap}
use Rattle.radix_tree.proofs.linking.put_leaf.Goals as goal

pub returns-clause-only : goal.returns-clause-only
returns-clause-only g c = record {
  bits = bits_kept c.requires.there c.with_leaf.result c.links-links.result.now (ap (λ r. r.lodged) c.set_links.ensures) c.links-links.ensures.links
      c.with_leaf.ensures.bit_node;
  heads = heads_kept c.requires.there c.with_leaf.result c.links-links.result.now (ap (λ r. r.lodged) c.set_links.ensures) c.links-links.ensures.links
      c.with_leaf.ensures.bit_node;
  masks = masks_kept c.requires.there c.with_leaf.result c.links-links.result.now (ap (λ r. r.lodged) c.set_links.ensures) c.links-links.ensures.links
      c.with_leaf.ensures.mask_node;
}

pub returns-clause-leaves : goal.returns-clause-leaves
returns-clause-leaves g c = grind (arith, leaves_put)
