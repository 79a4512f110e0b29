use Rattle.radix_tree.proofs.{MaskWalks.next_of, MaskWalks.rank_told, MaskWalks.ended, Words.◌≤◌, Words.◌∙◌, Words.subst, Words.arith}
use Rattle.radix_tree.proofs.masks.gap_at.Goals as goal

pub mask_node-leaf-requires-clause-listed : goal.mask_node-leaf-requires-clause-listed
mask_node-leaf-requires-clause-listed g c = let l = c.requires.list in (next_of (c.loop-behind.invariant.passing l.0 l.1) c.in-Some.is).listed

pub returns-then-number-low-clause-before : goal.returns-then-number-low-clause-before
returns-then-number-low-clause-before g c ms is = grind (arith, next_of (c.loop-behind.invariant.passing ms is) c.in-Some.is)

pub returns-then-number-low-clause-behind : goal.returns-then-number-low-clause-behind
returns-then-number-low-clause-behind g c ms is = grind (arith, next_of (c.loop-behind.invariant.passing ms is) c.in-Some.is)

pub loop-behind-preserved : goal.loop-behind-preserved
loop-behind-preserved g c = record {
  turn = c.mask_node-leaf.ensures.visit.turn ∙ c.loop-behind.invariant.turn;
  passing = λ ms is.
      let x = next_of (c.loop-behind.invariant.passing ms is) c.in-Some.is in
      let read = c.number.ensures.number ∙ rank_told _ c.mask_node-leaf.result.0 x.ranked x.room_is c.mask_node-leaf.ensures.leaf in
      x.passed c.mask_node-leaf.result.1 _ c.mask_node-leaf.ensures.said (subst (λ n. c.args.low ≤ n) read c.if-number-low.false)
      c.mask_node-leaf.ensures.visit;
}

pub returns-clause-before : goal.returns-clause-before
returns-clause-before g c ms is = (ended (c.loop-behind.invariant.passing ms is) c.in_default.is).0

pub returns-clause-behind : goal.returns-clause-behind
returns-clause-behind g c ms is = grind (arith, ended)
