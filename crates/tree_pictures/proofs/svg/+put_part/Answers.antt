use Rattle.std.proofs.Common.{sym, ◌∙◌, arith}
use Rattle.tree_pictures.proofs.Pictures.{picture_same}
use Rattle.tree_pictures.proofs.Puts.{put_as, leaf_pictured, fork_pictured}
use Rattle.tree_pictures.proofs.Trees.{IsCut}
use Rattle.tree_pictures.proofs.svg.+put_part.Goals as goal

pub returns-then-left-eq0-clause-put : goal.returns-then-left-eq0-clause-put
returns-then-left-eq0-clause-put t c =
    leaf_pictured c.put_leaf_box.result c.args.text.now c.put_leaf_box.new.text c.args.label.now c.args.first.column c.args.first.row c.args.low c.args.left
    c.args.pairs.now c.if-left-eq0.true c.put_leaf_box.ensures.put

pub returns-then-is_one_sided-clause-put : goal.returns-then-is_one_sided-clause-put
returns-then-is_one_sided-clause-put t c =
    let cut : IsCut c.args.left c.zeros-at.result c.args.pairs.now =
    record { some = omega arith; within = omega arith; zeros = c.zeros-at.ensures.zeros; ones = c.zeros-at.ensures.ones } in
    put_as c.put_part.result c.args.text.now c.put_part.new.text
    (sym (picture_same c.args.label.now c.args.first.column c.args.first.row c.args.low c.args.left c.zeros-at.result c.args.pairs.now cut c.if-is_one_sided.ensures))
    c.put_part.ensures.put

pub returns-clause-put : goal.returns-clause-put
returns-clause-put t c =
    let cut : IsCut c.args.left c.zeros-at.result c.args.pairs.now =
    record { some = omega arith; within = omega arith; zeros = c.zeros-at.ensures.zeros; ones = c.zeros-at.ensures.ones } in
    fork_pictured c.put_node_box.result c.args.text.now c.put_node_box.new.text c.args.label.now c.args.first.column c.args.first.row c.args.low c.args.left
    c.zeros-at.result c.args.pairs.now cut c.if-is_one_sided.ensures.0 c.if-is_one_sided.ensures.1 (c.deref.ensures.0 ∙ c.masks.ensures)
    c.side_at-side.ensures c.side_at-side-2.ensures c.size_of-size.ensures.columns c.size_of-size.ensures.before c.size_of-size-2.ensures.before
    c.in_ok-put_edge.ensures.put c.in_ok-put_part.ensures.put c.in_ok-put_edge-2.ensures.put c.in_ok-put_part-2.ensures.put c.put_node_box.ensures.put
