use Rattle.tree_pictures.proofs.Trees.{routes_from}
use Rattle.tree_pictures.proofs.laws.leaves_are_the_list.Goals as goal

pub returns : goal.returns
returns c = routes_from 32
