use Rattle.radix_tree.proofs.ChainGaps.{less_of, Has-first, begun, Has-at, few_at, passed, taken, found, ended}
use Rattle.radix_tree.proofs.Words.{◌≡◌, ◌+◌, ◌-◌, ◌∙◌, sym, ap, arith, eqb-true, eqb-false}
use Rattle.std.proofs.lemmas.Map.Keys.{ge_from_not_lt}
use Rattle.radix_tree.proofs.chains.gap.Goals as goal

pub links-requires-clause-there : goal.links-requires-clause-there
links-requires-clause-there g c = let r = c.requires.chain in Has-first r.0 c.args.first r.1

pub loop-next-init : goal.loop-next-init
loop-next-init g c =
    let count = ap (λ v. v.count) c.links.ensures.visit in
    let one : 1 ≡ c.links.new.visits.count - c.args.visits.now.count = omega arith in
    search (arith, passed, begun)

pub links-requires-in-Some-clause-there : goal.links-requires-in-Some-clause-there
links-requires-in-Some-clause-there g c =
    let r = c.requires.chain in
    Has-at (c.loop-next.invariant.passed r.0 r.1) c.in-Some.at c.in-Some.is

pub returns-then-eq-clause-gap : goal.returns-then-eq-clause-gap
returns-then-eq-clause-gap g c r begins =
    taken (c.loop-next.invariant.passed r begins) c.args.key c.in-Some.at c.links-in-Some.result.now c.in-Some.is c.links-in-Some.ensures.links
    c.leaf-member.ensures (search (arith, eqb-true))

pub returns-then-lt-clause-gap : goal.returns-then-lt-clause-gap
returns-then-lt-clause-gap g c r begins = search (arith, found, less_of)

pub loop-next-smaller : goal.loop-next-smaller
loop-next-smaller g c = search (arith, few_at)

pub loop-next-preserved : goal.loop-next-preserved
loop-next-preserved g c =
    let count = ap (λ v. v.count) c.links-in-Some.ensures.visit in
    let other : c.leaf-member.result.rank ≡ c.args.rank → ⊥ = search (arith, eqb-false) in
    let least = ge_from_not_lt c.leaf-member.result.rank c.args.rank (sym c.lt.ensures ∙ c.if-lt.false) in
    let next : (c.loop-next.visits.count - c.args.visits.now.count) + 1 ≡ c.links-in-Some.new.visits.count - c.args.visits.now.count = omega arith in
    search (arith, passed)

pub returns-clause-gap : goal.returns-clause-gap
returns-clause-gap g c r begins = search (arith, ended)
