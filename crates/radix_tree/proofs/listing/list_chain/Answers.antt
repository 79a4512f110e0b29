use Rattle.radix_tree.proofs.{ListedChains.begun, ListedChains.Has-at, ListedChains.passed, ListedChains.nearer, ListedChains.ended, Words.◌∙◌, Words.arith}
use Rattle.radix_tree.proofs.listing.list_chain.Goals as goal

pub loop-at-init : goal.loop-at-init
loop-at-init g c = search (arith, begun)

pub list_late-requires-clause-whole : goal.list_late-requires-clause-whole
list_late-requires-clause-whole g c =
    let w = c.requires.whole in
    let f = c.requires.first in
    let l = c.loop-at.invariant.left w.0 w.1 f.0 w.2 f.1 f.2 f.3 in
    (w.0, l.later, l.whole)

pub list_late-requires-clause-there : goal.list_late-requires-clause-there
list_late-requires-clause-there g c =
    let w = c.requires.whole in
    let f = c.requires.first in
    let l = c.loop-at.invariant.left w.0 w.1 f.0 w.2 f.1 f.2 f.3 in
    search (arith, Has-at)

pub links-requires-clause-there : goal.links-requires-clause-there
links-requires-clause-there g c =
    let w = c.requires.whole in
    let f = c.requires.first in
    let l = c.loop-at.invariant.left w.0 w.1 f.0 w.2 f.1 f.2 f.3 in
    Has-at c.list_late.new.nodes.lodged l (search arith) c.in-Some.is

pub loop-at-smaller : goal.loop-at-smaller
loop-at-smaller g c =
    let w = c.requires.whole in
    let f = c.requires.first in
    let l = c.loop-at.invariant.left w.0 w.1 f.0 w.2 f.1 f.2 f.3 in
    nearer c.args.nodes.now.lodged c.loop-at.nodes.lodged c.list_late.new.nodes.lodged c.in-Some.room c.links.result.now l c.in-Some.is
    c.loop-at.invariant.leaves (search arith) c.links.ensures.links c.leaf-at.ensures

pub loop-at-preserved : goal.loop-at-preserved
loop-at-preserved g c =
    record {
      turn = search arith;
      turns = c.list_late.ensures.stays.turn ∙ c.loop-at.invariant.turns;
      leaves = search arith;
      bits = search arith;
      left = λ root late p w said block none.
          let l = c.loop-at.invariant.left root late p w said block none in
          passed c.in-Some.room c.links.result.now l c.in-Some.is (search arith) c.links.ensures.links c.leaf-at.ensures
          (c.list_late.ensures.whole root l.later l.whole);
    }

pub returns-clause-whole : goal.returns-clause-whole
returns-clause-whole g c root late p w said =
    let f = c.requires.first in
    ended late p.leaf.key (search arith) c.in_default.is
