use Rattle.radix_tree.proofs.{Scans.begun, Scans.member, Scans.Has-at, Scans.agrees_is, Scans.covered, Scans.not_covered, Words.arith, Words.sym, Words.◌∙◌}
use Rattle.radix_tree.proofs.scanning.first_agreeing.Goals as goal

pub loop-at-init : goal.loop-at-init
loop-at-init g c = λ r begins. begun c.args.visits.now begins

pub leaf-leaf-requires-clause-there : goal.leaf-leaf-requires-clause-there
leaf-leaf-requires-clause-there g c = let r = c.requires.chain in Has-at (member (c.loop-at.invariant r.0 r.1) c.in-Some.is)

pub returns-then-agrees-clause-best : goal.returns-then-agrees-clause-best
returns-then-agrees-clause-best g c r begins =
    let x = member (c.loop-at.invariant r begins) c.in-Some.is in (
      x.route,
      x.room_is,
      grind (arith, covered),
    )

pub loop-at-preserved : goal.loop-at-preserved
loop-at-preserved g c = λ r begins.
    let x = member (c.loop-at.invariant r begins) c.in-Some.is in
    let said = c.leaf-leaf.ensures.said x.part x.said in
    let same = agrees_is c.args.address x.route said x.key x.rank in
    x.passed c.leaf-leaf.result _ said c.leaf-leaf.ensures.visit (not_covered c.args.address x.route (sym same ∙ sym c.agrees.ensures ∙ c.if-agrees.false))
