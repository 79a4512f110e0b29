use Rattle.radix_tree.proofs.masks.link.Goals as goal

pub put_mask_node-requires-clause-there : goal.put_mask_node-requires-clause-there
put_mask_node-requires-clause-there g c = c.requires.there c.in-Some.room c.in-Some.is
