use Rattle.radix_tree.proofs.{RoomReads.Has-leaf_at, Parts.chain_led, Parts.way_lists, Listings.leaf_hit, Listings.searched, Listings.hit_above}
use Rattle.radix_tree.proofs.{Listings.miss_above, WholeChanges.whole_listed, Words.◌∙◌, Words.subst, Words.None, Words.arith, Words.Best, Words.In}
use Rattle.radix_tree.proofs.Climbs.{begun, over, fork_over, used, risen, ended}
use Rattle.radix_tree.proofs.backtracking.best_room.Goals as goal

pub first_agreeing-requires-clause-chain : goal.first_agreeing-requires-clause-chain
first_agreeing-requires-clause-chain g c = let w = c.requires.whole in chain_led (c.leaf_for-leaf.ensures.leaf w.part w.named)

pub returns-in-Some-clause-best : goal.returns-in-Some-clause-best
returns-in-Some-clause-best g c w =
    let l = c.leaf_for-leaf.ensures.leaf w.part w.named in
    let r = chain_led l in leaf_hit l c.in-Some.is (c.first_agreeing.ensures.best r.0 r.1)

pub leaf-at-requires-clause-there : goal.leaf-at-requires-clause-there
leaf-at-requires-clause-there g c = let w = c.requires.whole in Has-leaf_at (c.leaf_for-leaf.ensures.leaf w.part w.named).leaf

pub loop-at-init : goal.loop-at-init
loop-at-init g c =
    let turn = c.leaf-at.ensures.visit.turn ∙ c.first_agreeing.ensures.visits.turn ∙ c.leaf_for-leaf.ensures.visits.turn in record {
      turn = turn;
      climb = λ w.
          let l = c.leaf_for-leaf.ensures.leaf w.part w.named in
          let r = chain_led l in
          begun l c.leaf-at.ensures.said (searched l c.in_default.is (c.first_agreeing.ensures.best r.0 r.1)
          (grind arith));
    }

pub bit_node-node-requires-clause-used : goal.bit_node-node-requires-clause-used
bit_node-node-requires-clause-used g c = let w = c.requires.whole in used (fork_over (over w.top (c.loop-at.invariant.climb w) c.in-Some-at.is))

pub best_listed-requires-clause-node : goal.best_listed-requires-clause-node
best_listed-requires-clause-node g c =
    let w = c.requires.whole in
    let o = over w.top (c.loop-at.invariant.climb w) c.in-Some-at.is in
    (o.part, c.in-Some-at.room, fork_over o, way_lists (λ x. Unit {0}) c.args.address w.part o.part o.ups o.way (whole_listed w), c.bit_node-node.ensures.node.head)

pub returns-in-Some-best_listed-clause-best : goal.returns-in-Some-best_listed-clause-best
returns-in-Some-best_listed-clause-best g c w =
    let o = over w.top (c.loop-at.invariant.climb w) c.in-Some-at.is in
    hit_above o (c.loop-at.invariant.climb w).holds c.in-Some-best_listed.is (c.best_listed.ensures.best o.part _ (fork_over o)
    (way_lists (λ x. Unit {0}) c.args.address w.part o.part o.ups o.way (whole_listed w)) c.bit_node-node.ensures.node.head)

pub returns-in-Some-best_listed-clause-visits : goal.returns-in-Some-best_listed-clause-visits
returns-in-Some-best_listed-clause-visits g c =
    let w = c.requires.whole in
    let o = over w.top (c.loop-at.invariant.climb w) c.in-Some-at.is in
    let more = c.best_listed.ensures.visits o.part _ (fork_over o) (way_lists (λ x. Unit {0}) c.args.address w.part o.part o.ups o.way (whole_listed w)) c.bit_node-node.ensures.node.head in
    grind arith

pub loop-at-smaller : goal.loop-at-smaller
loop-at-smaller g c =
    let w = c.requires.whole in
    let o = over w.top (c.loop-at.invariant.climb w) c.in-Some-at.is in
    let more = c.best_listed.ensures.visits o.part _ (fork_over o) (way_lists (λ x. Unit {0}) c.args.address w.part o.part o.ups o.way (whole_listed w)) c.bit_node-node.ensures.node.head in
    omega (arith, more.rises, ((c.loop-at.invariant.climb w).holds).few, o.beneath.low)

pub loop-at-preserved : goal.loop-at-preserved
loop-at-preserved g c =
    let w = c.requires.whole in
    let o = over w.top (c.loop-at.invariant.climb w) c.in-Some-at.is in record {
      turn = (c.best_listed.ensures.visits o.part _ (fork_over o) (way_lists (λ x. Unit {0}) c.args.address w.part o.part o.ups o.way (whole_listed w)) c.bit_node-node.ensures.node.head).turn
          ∙ c.bit_node-node.ensures.visit.turn ∙ c.loop-at.invariant.turn;
      climb = λ w.
          let o = over w.top (c.loop-at.invariant.climb w) c.in-Some-at.is in
          let lists = way_lists (λ x. Unit {0}) c.args.address w.part o.part o.ups o.way (whole_listed w) in
          let more = c.best_listed.ensures.visits o.part _ (fork_over o) lists c.bit_node-node.ensures.node.head in
          risen o c.bit_node-node.ensures.node (miss_above o (c.loop-at.invariant.climb w).holds c.in_default-best_listed.is
          (c.best_listed.ensures.best o.part _ (fork_over o) lists c.bit_node-node.ensures.node.head)
          (record { turn = more.turn ∙ c.bit_node-node.ensures.visit.turn; rises = omega arith; bound = omega arith }));
    }

pub returns-clause-best : goal.returns-clause-best
returns-clause-best g c w = subst (λ n. Best c.args.address n 34 (In w.part) None) w.low (ended (c.loop-at.invariant.climb w) c.in_default-at.is).none

pub returns-clause-visits : goal.returns-clause-visits
returns-clause-visits g c = grind (arith, (c.loop-at.invariant.climb c.requires.whole).holds)
