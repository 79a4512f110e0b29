use Rattle.std.proofs.Common.{ap, sym, ◌∙◌, arith}
use Rattle.tree_pictures.specs.Svg.{columns, columns_before, rows}
use Rattle.tree_pictures.proofs.Trees.{IsCut, leaf_at, fork_at, same_tree, both_lengths}
use Rattle.tree_pictures.proofs.sizes.+size_of.Goals as goal

pub returns-then-left-eq0 : goal.returns-then-left-eq0
returns-then-left-eq0 t c =
    let tree = leaf_at c.args.left c.args.pairs.now c.if-left-eq0.true in
    record { columns = ap columns tree; before = ap columns_before tree; rows = ap rows tree; fewer = omega arith; most = omega arith; low = omega arith }

pub returns-then-is_one_sided : goal.returns-then-is_one_sided
returns-then-is_one_sided t c =
    let cut : IsCut c.args.left c.zeros-at.result c.args.pairs.now =
    record { some = omega arith; within = omega arith; zeros = c.zeros-at.ensures.zeros; ones = c.zeros-at.ensures.ones } in
    let tree = sym (same_tree c.args.left c.zeros-at.result c.args.pairs.now cut c.if-is_one_sided.ensures) in
    let of = c.size_of.ensures in
    record {
      columns = of.columns ∙ ap columns tree;
      before = of.before ∙ ap columns_before tree;
      rows = of.rows ∙ ap rows tree;
      fewer = of.fewer;
      most = of.most;
      low = omega (arith, of.low);
    }

pub returns : goal.returns
returns t c =
    let cut : IsCut c.args.left c.zeros-at.result c.args.pairs.now =
    record { some = omega arith; within = omega arith; zeros = c.zeros-at.ensures.zeros; ones = c.zeros-at.ensures.ones } in
    let tree = fork_at c.args.left c.zeros-at.result c.args.pairs.now cut c.if-is_one_sided.ensures.0 c.if-is_one_sided.ensures.1 c.side_at.ensures c.side_at-2.ensures in
    let zeros = c.size_of-zero_side.ensures in
    let ones = c.size_of-one_side.ensures in
    record {
      columns = rw (zeros.columns, ones.columns) (ap columns tree);
      before = zeros.columns ∙ ap columns_before tree;
      rows = rw (c.max.ensures, zeros.rows, ones.rows) (ap rows tree);
      fewer = omega arith;
      most = omega (arith, zeros.most, ones.most, both_lengths c.zeros-at.result c.args.pairs.now c.side_at.ensures c.side_at-2.ensures);
      low = omega (arith, zeros.low, ones.low);
    }
