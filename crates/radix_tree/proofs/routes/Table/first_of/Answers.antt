use Rattle.radix_tree.proofs.Kept.{differ, agree, Has-led, no_first, first_found, whole_at, entries_at}
use Rattle.radix_tree.proofs.Words.{sym, ap, ◌∙◌, first_of}
use Rattle.radix_tree.proofs.routes.Table.first_of.Goals as goal

pub leaf_for-first-requires-clause-tree : goal.leaf_for-first-requires-clause-tree
leaf_for-first-requires-clause-tree g c = let w = whole_at _ c.self.invariant.holds c.in-Some.is in (w.part, w.named)

pub links-requires-clause-there : goal.links-requires-clause-there
links-requires-clause-there g c =
    let w = whole_at _ c.self.invariant.holds c.in-Some.is in
    Has-led (c.leaf_for-first.ensures.leaf w.part w.named)

pub returns-then-ne-clause-entry : goal.returns-then-ne-clause-entry
returns-then-ne-clause-entry g c =
    let w = whole_at _ c.self.invariant.holds c.in-Some.is in
    sym (ap (first_of c.args.key) (sym (entries_at _ _ _ c.self.view_is c.in-Some.is))
    ∙ no_first _ c.in-Some.root w c.args.key (c.leaf_for-first.ensures.leaf w.part w.named) c.links.result.now c.leaf-leaf.result c.links.ensures.links
    c.leaf-leaf.ensures (differ c.leaf-leaf.result.key c.args.key c.ne.ensures c.if-ne.true))

pub value-requires-clause-there : goal.value-requires-clause-there
value-requires-clause-there g c =
    let w = whole_at _ c.self.invariant.holds c.in-Some.is in
    Has-led (c.leaf_for-first.ensures.leaf w.part w.named)

pub returns-clause-entry : goal.returns-clause-entry
returns-clause-entry g c =
    let w = whole_at _ c.self.invariant.holds c.in-Some.is in
    sym (ap (first_of c.args.key) (sym (entries_at _ _ _ c.self.view_is c.in-Some.is))
    ∙ first_found _ w c.args.key (c.leaf_for-first.ensures.leaf w.part w.named) c.links.result.now c.leaf-leaf.result c.value.result.now c.links.ensures.links
    c.leaf-leaf.ensures c.value.ensures.value (agree c.leaf-leaf.result.key c.args.key c.ne.ensures c.if-ne.false))
