use Rattle.radix_tree.proofs.{Kept.whole_at, WholeRoutes.shown_is, Words.[], Words.◌∙◌, Words.sym, Words.ap, Words.refl, Words.append-nil, Words.shown}
use Rattle.radix_tree.proofs.Walks.{first_on, begins_on, begins_rest}
use Rattle.radix_tree.proofs.walk.Walk.over.Goals as goal

pub first_place-place-requires-clause-tree : goal.first_place-place-requires-clause-tree
first_place-place-requires-clause-tree g c = let w = whole_at _ c.requires.holds c.in-Some.is in (w.part, w.named)

pub invariant_of-result-2 : goal.invariant_of-result-2
invariant_of-result-2 g c =
    let w = whole_at _ c.requires.holds c.in-Some.is in
    begins_on c.first_place-place.result (first_on _ w.part w.part [] [] w.top (c.first_place-place.ensures.led w.part w.named) (refl, refl))
    c.first_place-place.ensures.room

pub returns-clause-rest : goal.returns-clause-rest
returns-clause-rest g c =
    let w = whole_at _ c.requires.holds c.in-Some.is in
    begins_rest c.first_place-place.result (first_on _ w.part w.part [] [] w.top (c.first_place-place.ensures.led w.part w.named) (refl, refl))
    c.first_place-place.ensures.room
    ∙ append-nil _ ∙ sym (shown_is w) ∙ ap (shown c.args.nodes.now.lodged) (sym c.in-Some.is)
