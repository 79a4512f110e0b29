-- The masks that were found, and those of the ranks to come, are all; there is room for each.
use Rattle.std.proofs.Common.{◌≡◌, ◌+◌, ◌-◌, ◌≤◌, ◌++◌, length}
use Rattle.tree_pictures.specs.Tree.{listed, masks_of}
use Rattle.tree_pictures.proofs.masks.masks.Given as goal

abbrev pub invariant-ranks : goal.invariant-ranks
invariant-ranks l = record {
  low : l.low ≤ l.rank;
  room : length l.masks.items + l.rank ≤ 32;
  masks : l.masks.items ++ listed l.low (l.rank - l.low) l.pairs ≡ masks_of l.low l.bit l.pairs;
}

abbrev pub decreases-ranks : goal.decreases-ranks
decreases-ranks l = l.rank
