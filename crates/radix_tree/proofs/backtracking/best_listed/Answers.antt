use Rattle.radix_tree.proofs.{Listings.begun, Listings.mask_at, Listings.hit, Listings.miss, Listings.ended, Words.◌∙◌, Words.arith}
use Rattle.radix_tree.proofs.backtracking.best_listed.Goals as goal

pub loop-at-init : goal.loop-at-init
loop-at-init g c = λ p room f listed head. begun c.args.visits.now f listed head

pub mask_node-leaf-requires-clause-listed : goal.mask_node-leaf-requires-clause-listed
mask_node-leaf-requires-clause-listed g c =
    let n = c.requires.node in let x = mask_at (c.loop-at.invariant n.0 n.1 n.2 n.3 n.4) c.in-Some.is in (x.mask, x.listed, x.block)

pub mask_node-leaf-requires-clause-turn : goal.mask_node-leaf-requires-clause-turn
mask_node-leaf-requires-clause-turn g c = let n = c.requires.node in (c.loop-at.invariant n.0 n.1 n.2 n.3 n.4).turn ∙ c.requires.turn

pub returns-then-agrees-clause-best : goal.returns-then-agrees-clause-best
returns-then-agrees-clause-best g c p room f listed head =
    let x = mask_at (c.loop-at.invariant p room f listed head) c.in-Some.is in
    hit x (c.mask_node-leaf.ensures.leaf x.part x.said) c.agrees.ensures c.if-agrees.true

pub returns-then-agrees-clause-visits : goal.returns-then-agrees-clause-visits
returns-then-agrees-clause-visits g c p room f listed head = grind (arith, mask_at (c.loop-at.invariant p room f listed head) c.in-Some.is)

pub loop-at-smaller : goal.loop-at-smaller
loop-at-smaller g c = let n = c.requires.node in grind (arith, mask_at (c.loop-at.invariant n.0 n.1 n.2 n.3 n.4) c.in-Some.is)

pub loop-at-preserved : goal.loop-at-preserved
loop-at-preserved g c = λ p room f listed head.
    let x = mask_at (c.loop-at.invariant p room f listed head) c.in-Some.is in
    miss x c.mask_node-leaf.result.1 (c.mask_node-leaf.ensures.leaf x.part x.said) c.mask_node-leaf.ensures.said c.agrees.ensures c.if-agrees.false c.mask_node-leaf.ensures.visit

pub returns-clause-best : goal.returns-clause-best
returns-clause-best g c p room f listed head = ended (c.loop-at.invariant p room f listed head) c.in_default.is

pub returns-clause-visits : goal.returns-clause-visits
returns-clause-visits g c p room f listed head = grind (arith, c.loop-at.invariant p room f listed head)
