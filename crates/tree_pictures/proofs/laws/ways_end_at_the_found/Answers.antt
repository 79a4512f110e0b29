use Rattle.tree_pictures.proofs.Ways.{way_ends}
use Rattle.tree_pictures.proofs.laws.ways_end_at_the_found.Goals as goal

pub returns : goal.returns
returns c address t p is = way_ends address 0 t p is
