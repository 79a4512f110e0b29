use Rattle.radix_tree.proofs.ChainGaps.{Has-member, come, earlier, few_back, first_reached}
use Rattle.radix_tree.proofs.Words.{◌-◌, ◌∙◌, ap, arith}
use Rattle.radix_tree.proofs.listing.first_of_chain.Goals as goal

pub links-requires-clause-there : goal.links-requires-clause-there
links-requires-clause-there g c = let r = c.requires.chain in Has-member r.0 r.1 r.2 r.3 r.4

pub loop-before-init : goal.loop-before-init
loop-before-init g c =
    let count = ap (λ v. v.count) c.links.ensures.visit in
    record {
      turn = ap (λ v. v.turn) c.links.ensures.visit ∙ c.requires.turn;
      back = λ r y first among is. come r y (c.links.new.visits.count - c.args.visits.now.count) c.links.result.now first among is (omega arith)
          c.links.ensures.links c.leaf-before.ensures;
      rises = omega arith;
    }

pub links-requires-in-Some-clause-there : goal.links-requires-in-Some-clause-there
links-requires-in-Some-clause-there g c =
    let r = c.requires.chain in
    let e = earlier (c.loop-before.invariant.back r.0 r.1 r.2 r.3 r.4) c.in-Some.is in
    Has-member r.0 e.is r.2 e.among e.room_is

pub loop-before-smaller : goal.loop-before-smaller
loop-before-smaller g c =
    let r = c.requires.chain in
    let count = ap (λ v. v.count) c.links-in-Some.ensures.visit in
    let few = few_back (c.loop-before.invariant.back r.0 r.1 r.2 r.3 r.4) in
    omega arith

pub loop-before-preserved : goal.loop-before-preserved
loop-before-preserved g c =
    let count = ap (λ v. v.count) c.links-in-Some.ensures.visit in
    let rises = c.loop-before.invariant.rises in
    record {
      turn = search arith;
      back = λ r y first among is.
          let e = earlier (c.loop-before.invariant.back r y first among is) c.in-Some.is in
          come r e.is (c.links-in-Some.new.visits.count - c.args.visits.now.count) c.links-in-Some.result.now first e.among e.room_is (omega arith)
          c.links-in-Some.ensures.links c.leaf-before-in-Some.ensures;
      rises = omega arith;
    }

pub returns-clause-first : goal.returns-clause-first
returns-clause-first g c r y first among is = first_reached (c.loop-before.invariant.back r y first among is) c.in_default.is
