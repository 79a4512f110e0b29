use Rattle.tree_pictures.proofs.svg.+put_part.Given as goal

abbrev pub decreases-put_part : goal.decreases-put_part
decreases-put_part l = l.left
