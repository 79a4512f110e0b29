use Rattle.tree_pictures.proofs.Bests.{tables_have_trees}
use Rattle.tree_pictures.proofs.Shapes.{trees_are_unique, tables_keep_this_tree}
use Rattle.tree_pictures.proofs.laws.tree_is_the_table_s.Goals as goal

pub returns-clause-tree : goal.returns-clause-tree
returns-clause-tree g c = tables_have_trees c.table_order.ensures.words

pub returns-clause-unique : goal.returns-clause-unique
returns-clause-unique g c = trees_are_unique

pub returns-clause-kept : goal.returns-clause-kept
returns-clause-kept g c = tables_keep_this_tree
