use Rattle.radix_tree.proofs.{ListedChains.mask_none, ListedChains.listed_late, Words.◌∙◌, Words.sym, Words.arith}
use Rattle.radix_tree.proofs.listing.list_late.Goals as goal

pub returns-in-Some-clause-whole : goal.returns-in-Some-clause-whole
returns-in-Some-clause-whole g c root late w =
    listed_late c.requires.there late w c.links.result.now _ c.links.ensures.links (sym c.mask_node.ensures ∙ c.in-Some.is)

pub list_mask-requires-clause-unmarked : goal.list_mask-requires-clause-unmarked
list_mask-requires-clause-unmarked g c = search (arith, mask_none)
