use Rattle.std.proofs.Common.{◌≡◌, ap, sym, ◌∙◌, subst, arith, IfOk}
use Rattle.tree_pictures.specs.Tree.{found, tree_from}
use Rattle.tree_pictures.proofs.Pictures.{way_same, found_same, found_leaf}
use Rattle.tree_pictures.proofs.Puts.{put_as, leaf_told, none_told, some_told, some_found, none_found}
use Rattle.tree_pictures.proofs.Trees.{IsCut}
use Rattle.tree_pictures.proofs.steps.+put_way.Goals as goal

pub returns-then-left-eq0-clause-put : goal.returns-then-left-eq0-clause-put
returns-then-left-eq0-clause-put t c =
    leaf_told c.put_tries.result c.args.text.now c.put_tries.new.text c.args.address c.args.low c.args.left c.args.pairs.now c.if-left-eq0.true c.in_ok-put_leaf.ensures.put c.put_tries.ensures.put

pub returns-then-left-eq0-clause-found : goal.returns-then-left-eq0-clause-found
returns-then-left-eq0-clause-found t c =
    subst (λ f. IfOk c.put_tries.result (λ best. best ≡ f))
    (sym (ap (λ n. found c.args.low c.args.address (tree_from n c.args.pairs.now)) c.if-left-eq0.true ∙ found_leaf c.args.address c.args.low c.args.pairs.now))
    c.put_tries.ensures.found

pub returns-then-is_one_sided-clause-put : goal.returns-then-is_one_sided-clause-put
returns-then-is_one_sided-clause-put t c =
    let cut : IsCut c.args.left c.zeros-at.result c.args.pairs.now =
    record { some = omega arith; within = omega arith; zeros = c.zeros-at.ensures.zeros; ones = c.zeros-at.ensures.ones } in
    put_as c.put_way.result c.args.text.now c.put_way.new.text
    (sym (way_same c.args.address c.args.low c.args.left c.zeros-at.result c.args.pairs.now cut c.if-is_one_sided.ensures)) c.put_way.ensures.put

pub returns-then-is_one_sided-clause-found : goal.returns-then-is_one_sided-clause-found
returns-then-is_one_sided-clause-found t c =
    let cut : IsCut c.args.left c.zeros-at.result c.args.pairs.now =
    record { some = omega arith; within = omega arith; zeros = c.zeros-at.ensures.zeros; ones = c.zeros-at.ensures.ones } in
    subst (λ f. IfOk c.put_way.result (λ best. best ≡ f))
    (sym (found_same c.args.address c.args.low c.args.left c.zeros-at.result c.args.pairs.now cut c.if-is_one_sided.ensures)) c.put_way.ensures.found

pub returns-in-Some-clause-put : goal.returns-in-Some-clause-put
returns-in-Some-clause-put t c =
    let cut : IsCut c.args.left c.zeros-at.result c.args.pairs.now =
    record { some = omega arith; within = omega arith; zeros = c.zeros-at.ensures.zeros; ones = c.zeros-at.ensures.ones } in
    some_told c.args.text.now c.args.address c.args.low c.args.left c.zeros-at.result c.args.pairs.now c.is_one.result cut
    c.if-is_one_sided.ensures.0 c.if-is_one_sided.ensures.1 c.is_one.ensures c.side_at-side.ensures (sym c.in-Some.is ∙ c.in_ok-best.ensures.found)
    c.in_ok-put_down.ensures.put c.in_ok-best.ensures.put

pub returns-in-Some-clause-found : goal.returns-in-Some-clause-found
returns-in-Some-clause-found t c =
    let cut : IsCut c.args.left c.zeros-at.result c.args.pairs.now =
    record { some = omega arith; within = omega arith; zeros = c.zeros-at.ensures.zeros; ones = c.zeros-at.ensures.ones } in
    some_found c.args.address c.args.low c.args.left c.zeros-at.result c.args.pairs.now c.is_one.result cut
    c.if-is_one_sided.ensures.0 c.if-is_one_sided.ensures.1 c.is_one.ensures c.side_at-side.ensures (sym c.in-Some.is ∙ c.in_ok-best.ensures.found)

pub returns-in-None-clause-put : goal.returns-in-None-clause-put
returns-in-None-clause-put t c =
    let cut : IsCut c.args.left c.zeros-at.result c.args.pairs.now =
    record { some = omega arith; within = omega arith; zeros = c.zeros-at.ensures.zeros; ones = c.zeros-at.ensures.ones } in
    none_told c.put_up.result c.args.text.now c.put_up.new.text c.args.address c.args.low c.args.left c.zeros-at.result c.args.pairs.now c.is_one.result cut
    c.if-is_one_sided.ensures.0 c.if-is_one_sided.ensures.1 c.is_one.ensures (c.deref.ensures.0 ∙ c.masks.ensures) c.side_at-side.ensures
    (sym c.in-None.is ∙ c.in_ok-best.ensures.found) c.in_ok-put_down.ensures.put c.in_ok-best.ensures.put c.put_up.ensures.put

pub returns-in-None-clause-found : goal.returns-in-None-clause-found
returns-in-None-clause-found t c =
    let cut : IsCut c.args.left c.zeros-at.result c.args.pairs.now =
    record { some = omega arith; within = omega arith; zeros = c.zeros-at.ensures.zeros; ones = c.zeros-at.ensures.ones } in
    none_found c.put_up.result c.args.address c.args.low c.args.left c.zeros-at.result c.args.pairs.now c.is_one.result cut
    c.if-is_one_sided.ensures.0 c.if-is_one_sided.ensures.1 c.is_one.ensures (c.deref.ensures.0 ∙ c.masks.ensures) c.side_at-side.ensures
    (sym c.in-None.is ∙ c.in_ok-best.ensures.found) c.put_up.ensures.found
