use Rattle.radix_tree.proofs.MaskWalks.{Clearing, ranks_from}
use Rattle.radix_tree.proofs.Words.{◌≡◌, List, IsMasks, Stays, leaves_in, Placed, KeepsTree, KeepsHeads}
use Rattle.radix_tree.proofs.masks.clear.Given as goal

abbrev pub invariant-loop-at : goal.invariant-loop-at
invariant-loop-at g l = record {
  of_turn : l.visits.turn ≡ l.nodes.turn;
  clearing : (ms : List (Placed g.row.V.Denot)) → IsMasks l.fn.nodes.lodged l.fn.first ms → Clearing l.fn.nodes.lodged l.nodes.lodged ms l.at;
  heads : KeepsHeads l.fn.nodes.lodged l.nodes.lodged;
  tree : KeepsTree l.fn.nodes.lodged l.nodes.lodged;
  stays : Stays l.fn.nodes l.nodes l.fn.visits l.visits;
}

abbrev pub decreases-loop-at : goal.decreases-loop-at
decreases-loop-at g l = ranks_from (leaves_in l.nodes.lodged) l.at
