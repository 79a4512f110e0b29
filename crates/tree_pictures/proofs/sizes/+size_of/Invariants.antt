use Rattle.tree_pictures.proofs.sizes.+size_of.Given as goal

abbrev pub decreases-size_of : goal.decreases-size_of
decreases-size_of l = l.left
