use Rattle.radix_tree.proofs.{ListedChains.Left, MaskWalks.ranks_from}
use Rattle.radix_tree.proofs.Words.{◌≡◌, Bool, ℕ, Some, None, Node, LeafPart, leaves_in, KeepsLeaves, KeepsBits, IsWholeBut, nobody_out, number_of}
use Rattle.radix_tree.proofs.listing.list_chain.Given as goal

abbrev pub invariant-loop-at : goal.invariant-loop-at
invariant-loop-at g l = record {
  turn : l.visits.turn ≡ l.nodes.turn;
  turns : l.nodes.turn ≡ l.fn.nodes.turn;
  leaves : KeepsLeaves l.fn.nodes.lodged l.nodes.lodged;
  bits : KeepsBits l.fn.nodes.lodged l.nodes.lodged;
  left : (root : Node) (late : ℕ → Bool) (p : LeafPart g.row.V.Denot) → IsWholeBut l.fn.nodes.lodged root late nobody_out
      → leaves_in l.fn.nodes.lodged (number_of l.fn.first) ≡ Some p → p.block ≡ l.fn.first.block → p.leaf.previous ≡ None
      → Left l.fn.nodes.lodged l.nodes.lodged root late p.leaf.key l.at;
}

abbrev pub decreases-loop-at : goal.decreases-loop-at
decreases-loop-at g l = ranks_from (leaves_in l.nodes.lodged) l.at
