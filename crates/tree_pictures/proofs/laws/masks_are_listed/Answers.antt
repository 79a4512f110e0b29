use Rattle.tree_pictures.proofs.Bests.{tables_list_their_masks}
use Rattle.tree_pictures.proofs.laws.masks_are_listed.Goals as goal

pub returns : goal.returns
returns g c = tables_list_their_masks c.table_order.ensures.words
