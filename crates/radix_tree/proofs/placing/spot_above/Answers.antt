use Rattle.radix_tree.proofs.{RoomReads.Has-leaf_at, Words.◌∙◌, Words.subst, Words.arith, Words.IsSpot}
use Rattle.radix_tree.proofs.Climbs.{begun, over, fork_over, used, risen, leaf_past, over_past, spot_stopped, spot_topped}
use Rattle.radix_tree.proofs.placing.spot_above.Goals as goal

pub leaf-above-requires-clause-there : goal.leaf-above-requires-clause-there
leaf-above-requires-clause-there g c = search (Has-leaf_at)

pub loop-above-init : goal.loop-above-init
loop-above-init g c = record {
  turn = c.leaf-above.ensures.visit.turn;
  climb = λ key w. begun w.led c.leaf-above.ensures.said (leaf_past w.led w.differs c.leaf-above.ensures.visit);
}

pub bit_node-node-requires-clause-used : goal.bit_node-node-requires-clause-used
bit_node-node-requires-clause-used g c = let n = c.requires.new in used (fork_over (over n.1.top (c.loop-above.invariant.climb n.0 n.1) c.in-Some.is))

pub returns-then-node-bit-clause-spot : goal.returns-then-node-bit-clause-spot
returns-then-node-bit-clause-spot g c key w =
    let r = c.loop-above.invariant.climb key w in
    subst (λ o. IsSpot c.args.nodes.now.lodged key c.args.bit w.whole o c.loop-above.below) c.in-Some.is
    (spot_stopped w r (over w.top r c.in-Some.is) c.bit_node-node.ensures.node c.if-node-bit.true)

pub loop-above-smaller : goal.loop-above-smaller
loop-above-smaller g c = let n = c.requires.new in grind (arith, c.loop-above.invariant.climb n.0 n.1)

pub loop-above-preserved : goal.loop-above-preserved
loop-above-preserved g c = record {
  turn = c.bit_node-node.ensures.visit.turn ∙ c.loop-above.invariant.turn;
  climb = λ key w.
      let r = c.loop-above.invariant.climb key w in
      let o = over w.top r c.in-Some.is in
      risen o c.bit_node-node.ensures.node (over_past o r.holds c.bit_node-node.ensures.node c.if-node-bit.false c.bit_node-node.ensures.visit);
}

pub returns-clause-spot : goal.returns-clause-spot
returns-clause-spot g c key w = spot_topped w (c.loop-above.invariant.climb key w) c.in_default.is
