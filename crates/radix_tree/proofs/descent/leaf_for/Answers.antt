use Rattle.radix_tree.proofs.{Facts.zero_or_one, Descents.begun, Descents.used_at, Descents.parted, Descents.led, Words.arith, Words.eqb-true}
use Rattle.radix_tree.proofs.descent.leaf_for.Goals as goal

pub loop-at-init : goal.loop-at-init
loop-at-init g c = λ p named. begun c.args.visits.now named

pub returns-in-Leaf-clause-leaf : goal.returns-in-Leaf-clause-leaf
returns-in-Leaf-clause-leaf g c p named = led (c.loop-at.invariant p named) c.in-Leaf.is

pub bit_node-node-requires-clause-used : goal.bit_node-node-requires-clause-used
bit_node-node-requires-clause-used g c = search (used_at, c.loop-at.invariant)

pub loop-at-preserved-then-is_one : goal.loop-at-preserved-then-is_one
loop-at-preserved-then-is_one g c = λ p named.
    (parted (c.loop-at.invariant p named) c.in-Bit.is c.bit_node-node.ensures.node c.bit_node-node.ensures.visit).one
    (grind (arith, eqb-true))

pub loop-at-preserved : goal.loop-at-preserved
loop-at-preserved g c = λ p named. (parted (c.loop-at.invariant p named) c.in-Bit.is c.bit_node-node.ensures.node c.bit_node-node.ensures.visit).zero
    (grind (arith, zero_or_one))
