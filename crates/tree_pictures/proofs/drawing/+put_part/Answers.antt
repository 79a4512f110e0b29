use Rattle.std.proofs.Common.{sym, ◌∙◌, arith}
use Rattle.tree_pictures.proofs.Pictures.{draws_same}
use Rattle.tree_pictures.proofs.Puts.{put_as, leaf_drawn, fork_drawn}
use Rattle.tree_pictures.proofs.Trees.{IsCut}
use Rattle.tree_pictures.proofs.drawing.+put_part.Goals as goal

pub returns-then-left-eq0-clause-put : goal.returns-then-left-eq0-clause-put
returns-then-left-eq0-clause-put t c =
    leaf_drawn c.put_leaf.result c.args.text.now c.put_leaf.new.text c.args.indent.now c.args.low c.args.left c.args.pairs.now c.if-left-eq0.true c.put_leaf.ensures.put

pub returns-then-is_one_sided-clause-put : goal.returns-then-is_one_sided-clause-put
returns-then-is_one_sided-clause-put t c =
    let cut : IsCut c.args.left c.zeros-at.result c.args.pairs.now =
    record { some = omega arith; within = omega arith; zeros = c.zeros-at.ensures.zeros; ones = c.zeros-at.ensures.ones } in
    put_as c.put_part.result c.args.text.now c.put_part.new.text
    (sym (draws_same c.args.indent.now c.args.low c.args.left c.zeros-at.result c.args.pairs.now cut c.if-is_one_sided.ensures)) c.put_part.ensures.put

pub returns-clause-put : goal.returns-clause-put
returns-clause-put t c =
    let cut : IsCut c.args.left c.zeros-at.result c.args.pairs.now =
    record { some = omega arith; within = omega arith; zeros = c.zeros-at.ensures.zeros; ones = c.zeros-at.ensures.ones } in
    fork_drawn c.put_part-3.result c.args.text.now c.put_part-3.new.text c.args.indent.now c.args.low c.args.left c.zeros-at.result c.args.pairs.now cut
    c.if-is_one_sided.ensures.0 c.if-is_one_sided.ensures.1 (c.deref.ensures.0 ∙ c.masks.ensures) (c.deref-2.ensures.0 ∙ c.deeper-beneath.ensures)
    (c.deref-3.ensures.0 ∙ c.deeper-beneath-2.ensures) c.side_at-side.ensures c.side_at-side-2.ensures c.in_ok-put_node.ensures.put
    c.in_ok-put_mark.ensures.put c.in_ok-put_part.ensures.put c.in_ok-put_mark-2.ensures.put c.put_part-3.ensures.put
