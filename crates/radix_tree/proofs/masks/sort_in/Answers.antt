use Rattle.radix_tree.proofs.{MaskLists.not_below_among, MaskLists.Has-ranked, MaskWalks.rank_told}
use Rattle.radix_tree.proofs.MaskChanges.{sorted, sorted_marks, list_of, Has-last, are_ranked_same, put_aside, aside_linked}
use Rattle.radix_tree.proofs.Words.{◌∙◌, ◌≤◌, Some, sym, ap, subst, is_some, masks_in, not_below}
use Rattle.radix_tree.proofs.masks.sort_in.Goals as goal

pub leaf-requires-clause-there : goal.leaf-requires-clause-there
leaf-requires-clause-there g c = search (Has-ranked)

pub put_mask_node-requires-clause-there : goal.put_mask_node-requires-clause-there
put_mask_node-requires-clause-there g c = search (Has-ranked)

pub link-requires-clause-there : goal.link-requires-clause-there
link-requires-clause-there g c room is =
    let l = c.requires.list in
    Has-last c.put_mask_node.new.nodes.lodged l.0 (not_below c.number-rank.result l.0)
    (are_ranked_same c.args.nodes.now.lodged c.put_mask_node.new.nodes.lodged l.0 c.put_mask_node.ensures.tree.leaves l.1.ranked)
    (λ y among. (not_below_among c.number-rank.result l.0 y among).0) (c.gap_at-gap.ensures.before l.0 (list_of c.masks_of-first.ensures.head l.1)) is

pub returns-clause-list : goal.returns-clause-list
returns-clause-list g c ms f is no_rank =
    let first = list_of c.masks_of-first.ensures.head is in
    let read = rank_told c.args.nodes.now.lodged c.leaf.result f.ranked f.room_is c.leaf.ensures.said in
    sorted c.args.nodes.now.lodged c.put_mask_node.new.nodes.lodged c.link.new.nodes.lodged c.args.fork f.is c.args.room
    (record { next = c.gap_at-gap.result.behind }) ms is f.room_is f.ranked f.unmarked (c.number-rank.ensures.number ∙ read)
    (subst (λ n. n ≤ 33) (sym c.number-rank.ensures.number) c.number-rank.ensures.most) no_rank
    (c.gap_at-gap.ensures.before ms first) (c.gap_at-gap.ensures.behind ms first)
    c.put_mask_node.ensures.tree.leaves c.put_mask_node.ensures.heads c.put_mask_node.ensures.masks c.link.ensures.tree.leaves c.link.ensures.heads
    c.link.ensures.masks

pub returns-clause-masks : goal.returns-clause-masks
returns-clause-masks g c ms is n other aside =
    let first = list_of c.masks_of-first.ensures.head is in
    c.link.ensures.masks n
    ∙ aside_linked (not_below c.number-rank.result ms) _ n (masks_in c.put_mask_node.new.nodes.lodged n) (c.gap_at-gap.ensures.before ms first)
    (λ y among. aside y (not_below_among c.number-rank.result ms y among).0)
    ∙ c.put_mask_node.ensures.masks n ∙ put_aside c.args.room (Some (record { next = c.gap_at-gap.result.behind })) n (masks_in c.args.nodes.now.lodged n) other

pub returns-clause-marks : goal.returns-clause-marks
returns-clause-marks g c n other =
    let l = c.requires.list in
    ap is_some (c.link.ensures.masks n)
    ∙ sorted_marks (masks_in c.args.nodes.now.lodged) (masks_in c.put_mask_node.new.nodes.lodged) l.0 (not_below c.number-rank.result l.0) c.args.room
    (record { next = c.gap_at-gap.result.behind }) _ n
    l.1.stands c.requires.free.unmarked c.put_mask_node.ensures.masks (λ y among. (not_below_among c.number-rank.result l.0 y among).0)
    (c.gap_at-gap.ensures.before l.0 (list_of c.masks_of-first.ensures.head l.1))
    ∙ ap is_some (c.put_mask_node.ensures.masks n ∙ put_aside c.args.room (Some (record { next = c.gap_at-gap.result.behind })) n
    (masks_in c.args.nodes.now.lodged n) other)
