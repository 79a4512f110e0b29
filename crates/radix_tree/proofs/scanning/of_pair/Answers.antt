use Rattle.radix_tree.proofs.{Scans.begun, Scans.member, Scans.Has-at, Scans.ended, Words.arith, Words.◌≡◌, Words.sym, Words.ap, Words.◌∙◌, Words.eqb-false}
use Rattle.radix_tree.proofs.scanning.of_pair.Goals.{else-eq-via-then-eq+else-eq-2, else-eq-via-else-eq}
use Rattle.radix_tree.proofs.scanning.of_pair.Goals as goal

pub loop-at-init : goal.loop-at-init
loop-at-init g c = λ r begins. begun c.args.visits.now begins

pub leaf-leaf-requires-clause-there : goal.leaf-leaf-requires-clause-there
leaf-leaf-requires-clause-there g c = let r = c.requires.chain in Has-at (member (c.loop-at.invariant r.0 r.1) c.in-Some.is)

pub returns-then-eq-2-clause-found : goal.returns-then-eq-2-clause-found
returns-then-eq-2-clause-found g c r begins =
    let x = member (c.loop-at.invariant r begins) c.in-Some.is in
    (x.route, x.room_is, grind arith)

pub loop-at-preserved : goal.loop-at-preserved
loop-at-preserved g c = λ r begins.
    let x = member (c.loop-at.invariant r begins) c.in-Some.is in
    let said = c.leaf-leaf.ensures.said x.part x.said in
    let not : c.leaf-leaf.result.key ≡ c.args.key → c.leaf-leaf.result.rank ≡ c.args.rank → ⊥ = elim c.else-eq.branch [
      | else-eq-via-then-eq+else-eq-2 w ↦ λ key rank. eqb-false c.leaf-leaf.result.rank c.args.rank (sym w.eq-then-eq.ensures ∙ w.if-eq-2.false) rank
      | else-eq-via-else-eq w ↦ λ key rank. eqb-false c.leaf-leaf.result.key c.args.key (sym c.eq.ensures ∙ w.if-eq.false) key
    ] in
    x.passed c.leaf-leaf.result _ said c.leaf-leaf.ensures.visit (λ has. not (ap (λ l. l.key) said ∙ x.key ∙ has.0)
    (ap (λ l. l.rank) said ∙ x.rank ∙ has.1))

pub returns-clause-found : goal.returns-clause-found
returns-clause-found g c r begins x among has = search (ended, c.loop-at.invariant)
