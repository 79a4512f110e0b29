use Rattle.radix_tree.proofs.{RoomReads.Has-leaf_at, Words.◌≤◌, Words.◌<◌, Words.◌∙◌, Words.subst, Words.arith}
use Rattle.radix_tree.proofs.Climbs.{begun, over, fork_over, used, risen, none_passed, home_passed, home_stopped, home_topped}
use Rattle.radix_tree.proofs.masks.home.Goals as goal

pub leaf-above-requires-clause-there : goal.leaf-above-requires-clause-there
leaf-above-requires-clause-there g c = search (Has-leaf_at)

pub loop-above-init : goal.loop-above-init
loop-above-init g c = record { turn = c.leaf-above.ensures.visit.turn; climb = λ key whole top led. search (begun, led, none_passed) }

pub bit_node-node-requires-clause-used : goal.bit_node-node-requires-clause-used
bit_node-node-requires-clause-used g c = let l = c.requires.led in used (fork_over (over l.2 (c.loop-above.invariant.climb l.0 l.1 l.2 l.4) c.in-Some.is))

pub returns-then-node-rank-clause-home : goal.returns-then-node-rank-clause-home
returns-then-node-rank-clause-home g c key whole top low led =
    let before = subst (λ n. c.bit_node-node.result.bit < n) c.number-rank.ensures.number c.if-node-rank.true in
    let w = c.loop-above.invariant.climb key whole top led in home_stopped w (over top w c.in-Some.is) c.bit_node-node.ensures.node before

pub loop-above-smaller : goal.loop-above-smaller
loop-above-smaller g c = let l = c.requires.led in grind (arith, c.loop-above.invariant.climb l.0 l.1 l.2 l.4)

pub loop-above-preserved : goal.loop-above-preserved
loop-above-preserved g c =
    let past = subst (λ n. n ≤ c.bit_node-node.result.bit) c.number-rank.ensures.number c.if-node-rank.false in record {
      turn = c.bit_node-node.ensures.visit.turn ∙ c.loop-above.invariant.turn;
      climb = λ key whole top led.
          let w = c.loop-above.invariant.climb key whole top led in
          let o = over top w c.in-Some.is in risen o c.bit_node-node.ensures.node
          (home_passed o w.holds c.bit_node-node.ensures.node past c.bit_node-node.ensures.visit);
    }

pub returns-clause-home : goal.returns-clause-home
returns-clause-home g c key whole top low led = home_topped low (c.loop-above.invariant.climb key whole top led) c.in_default.is
