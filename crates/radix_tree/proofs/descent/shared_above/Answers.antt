use Rattle.radix_tree.proofs.{Climbs.begun, Climbs.over, Climbs.fork_over, Climbs.used, Climbs.risen, RoomReads.Has-leaf_at, Descents.leaf_begins}
use Rattle.radix_tree.proofs.{Descents.over_named, Descents.stopped, Descents.met, Descents.topped, Words.◌∙◌, Words.arith}
use Rattle.radix_tree.proofs.descent.shared_above.Goals as goal

pub leaf-above-requires-clause-there : goal.leaf-above-requires-clause-there
leaf-above-requires-clause-there g c = let l = c.requires.led in Has-leaf_at l.4.leaf

pub loop-above-init : goal.loop-above-init
loop-above-init g c = record {
  turn = c.leaf-above.ensures.visit.turn;
  climb = λ key whole top led. begun led c.leaf-above.ensures.said (leaf_begins led c.leaf-above.ensures.visit);
}

pub bit_node-node-requires-clause-used : goal.bit_node-node-requires-clause-used
bit_node-node-requires-clause-used g c = let l = c.requires.led in used (fork_over (over l.2 (c.loop-above.invariant.climb l.0 l.1 l.2 l.4) c.in-Some.is))

pub returns-then-node-bit-clause-on_way : goal.returns-then-node-bit-clause-on_way
returns-then-node-bit-clause-on_way g c address key whole top low led same =
    let r = c.loop-above.invariant.climb key whole top led in stopped same r (over top r c.in-Some.is) c.bit_node-node.ensures.node c.if-node-bit.true

pub returns-then-node-bit-2-clause-on_way : goal.returns-then-node-bit-2-clause-on_way
returns-then-node-bit-2-clause-on_way g c address key whole top low led same =
    let r = c.loop-above.invariant.climb key whole top led in met same (over top r c.in-Some.is) c.bit_node-node.ensures.node c.if-node-bit-2.true

pub loop-above-smaller : goal.loop-above-smaller
loop-above-smaller g c = let l = c.requires.led in grind (arith, c.loop-above.invariant.climb l.0 l.1 l.2 l.4)

pub loop-above-preserved : goal.loop-above-preserved
loop-above-preserved g c = record {
  turn = c.bit_node-node.ensures.visit.turn ∙ c.loop-above.invariant.turn;
  climb = λ key whole top led.
      let r = c.loop-above.invariant.climb key whole top led in
      let o = over top r c.in-Some.is in
      risen o c.bit_node-node.ensures.node (over_named o r.holds c.bit_node-node.ensures.visit);
}

pub returns-clause-on_way : goal.returns-clause-on_way
returns-clause-on_way g c address key whole top low led same = topped same (c.loop-above.invariant.climb key whole top led) c.in_default.is
