-- As many zeros as were passed, and those that come, are all.
use Rattle.std.proofs.Common.{◌≡◌, ◌+◌, length, drop}
use Rattle.tree_pictures.specs.Tree.{zeros_of}
use Rattle.tree_pictures.proofs.splitting.count_zeros.Given as goal

abbrev pub invariant-routes : goal.invariant-routes
invariant-routes l = l.i + length (zeros_of l.bit (drop l.i l.pairs)) ≡ length (zeros_of l.bit l.pairs)
