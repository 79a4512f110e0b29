use Rattle.tree_pictures.proofs.Bests.{search_finds_the_best}
use Rattle.tree_pictures.proofs.laws.search_finds_the_best.Goals as goal

pub returns : goal.returns
returns g c = search_finds_the_best c.table_order.ensures.words c.members.ensures.stand c.found_is_member.ensures.best_of c.best_is_greatest.ensures.unique
