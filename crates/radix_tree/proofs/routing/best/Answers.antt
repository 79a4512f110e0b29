use Rattle.radix_tree.proofs.{WholeRoutes.shown_is, Words.◌∙◌, Words.sym, Words.ap, Words.best_of}
use Rattle.radix_tree.proofs.BestOfTree.{answer, Has-best, best_answer, best_none}
use Rattle.radix_tree.proofs.routing.best.Goals as goal

pub leaf-leaf-requires-clause-there : goal.leaf-leaf-requires-clause-there
leaf-leaf-requires-clause-there g c = let w = c.requires.whole in Has-best (answer w.part c.in-Some.is (c.find_best.ensures.best w))

pub value-requires-clause-there : goal.value-requires-clause-there
value-requires-clause-there g c = let w = c.requires.whole in Has-best (answer w.part c.in-Some.is (c.find_best.ensures.best w))

pub returns-in_default-clause-best : goal.returns-in_default-clause-best
returns-in_default-clause-best g c =
    let w = c.requires.whole in
    best_none w.part c.args.address c.in_default.is (c.find_best.ensures.best w) ∙ ap (best_of c.args.address) (sym (shown_is w))

pub returns-clause-best : goal.returns-clause-best
returns-clause-best g c =
    let w = c.requires.whole in
    let a = answer w.part c.in-Some.is (c.find_best.ensures.best w) in
    best_answer a c.value.result.now (c.leaf-leaf.ensures.said a.part a.said) c.value.ensures.value ∙ ap (best_of c.args.address) (sym (shown_is w))
