-- At each rank the first route of it, if there is one, is the next mask.
use Rattle.std.proofs.Common.{◌-◌, ◌++◌, List, [], ◌∷◌, ap, sym, ◌∙◌, append_assoc, arith}
use Rattle.std.specs.List.{cons_option}
use Rattle.tree_pictures.specs.Tree.{listed}
use Rattle.tree_pictures.proofs.Trees.{listed_more}
use Rattle.tree_pictures.proofs.masks.masks.Goals as goal
use Rattle.tree_pictures.specs.declared.pair.Pair.{Pair}

pub ranks-preserved-in-Some : goal.ranks-preserved-in-Some
ranks-preserved-in-Some c =
    let later : List Pair = listed c.args.low (c.ranks.rank - 1 - c.args.low) c.args.pairs.now in
    let more = listed_more c.args.low c.ranks.rank c.args.pairs.now (omega arith) in
    record {
      low = omega arith;
      room = omega (arith, c.push.ensures.len);
      masks = ap (λ (s : List Pair). s ++ later) c.push.ensures.items ∙ append_assoc c.ranks.masks.items (c.in-Some.pair ∷ []) later
          ∙ ap (λ (s : List Pair). c.ranks.masks.items ++ s) (sym (more ∙ ap (λ o. cons_option o later) (sym c.in-Some.ensures))) ∙ c.ranks.invariant.masks;
    }

pub ranks-preserved : goal.ranks-preserved
ranks-preserved c =
    let later : List Pair = listed c.args.low (c.ranks.rank - 1 - c.args.low) c.args.pairs.now in
    let more = listed_more c.args.low c.ranks.rank c.args.pairs.now (omega arith) in
    record {
      low = omega arith;
      room = omega arith;
      masks = ap (λ (s : List Pair). c.ranks.masks.items ++ s) (sym (more ∙ ap (λ o. cons_option o later) (sym c.in-None.ensures))) ∙ c.ranks.invariant.masks;
    }
