use Rattle.radix_tree.proofs.MaskLists.{not_below_among, ranked_among, Has-ranked}
use Rattle.radix_tree.proofs.MaskWalks.{rank_told, listed_as, next_told}
use Rattle.radix_tree.proofs.MaskChanges.{stands_at, taken, list_of, Has-last, ranked_same, put_aside, aside_linked, marks_linked}
use Rattle.radix_tree.proofs.Words.{◌∙◌, ◌+◌, None, ap, is_some, masks_in, leaves_in, not_below, below}
use Rattle.radix_tree.proofs.masks.sort_out.Goals as goal

pub mask_node-leaf-requires-clause-listed : goal.mask_node-leaf-requires-clause-listed
mask_node-leaf-requires-clause-listed g c =
    let l = c.requires.list in
    listed_as _ l.1 (below l.1.entry.rank l.0) (stands_at l.0 l.1 l.2 l.3) l.4

pub link-requires-clause-there : goal.link-requires-clause-there
link-requires-clause-there g c room is =
    let l = c.requires.list in
    Has-last c.args.nodes.now.lodged l.0 (not_below (c.number.result + 1) l.0) l.2.ranked
    (λ y among. (not_below_among (c.number.result + 1) l.0 y among).0) (c.gap_at-gap.ensures.before l.0 (list_of c.masks_of-first.ensures.head l.2)) is

pub put_mask_node-requires-clause-there : goal.put_mask_node-requires-clause-there
put_mask_node-requires-clause-there g c =
    let l = c.requires.list in
    Has-ranked c.link.new.nodes.lodged (ranked_same c.args.nodes.now.lodged c.link.new.nodes.lodged l.1 c.link.ensures.tree.leaves
    (ranked_among (leaves_in c.args.nodes.now.lodged) l.0 l.2.ranked l.1 l.3)) l.4

pub returns-clause-list : goal.returns-clause-list
returns-clause-list g c ms x is among room_is =
    let own = ranked_among (leaves_in c.args.nodes.now.lodged) ms is.ranked x among in
    let read = rank_told c.args.nodes.now.lodged c.mask_node-leaf.result.0 own room_is c.mask_node-leaf.ensures.leaf in
    taken c.args.nodes.now.lodged c.link.new.nodes.lodged c.put_mask_node.new.nodes.lodged c.args.fork x c.args.room ms
    is among room_is (ap (λ n. n + 1) (c.number.ensures.number ∙ read)) (c.gap_at-gap.ensures.before ms (list_of c.masks_of-first.ensures.head is))
    (next_told c.args.nodes.now.lodged x (below x.entry.rank ms) c.mask_node-leaf.result.1 (stands_at ms x is among) room_is c.mask_node-leaf.ensures.said)
    c.link.ensures.tree.leaves c.link.ensures.heads c.link.ensures.masks c.put_mask_node.ensures.tree.leaves c.put_mask_node.ensures.heads
    c.put_mask_node.ensures.masks

pub returns-clause-masks : goal.returns-clause-masks
returns-clause-masks g c ms is n other aside =
    let first = list_of c.masks_of-first.ensures.head is in
    c.put_mask_node.ensures.masks n ∙ put_aside c.args.room None n (masks_in c.link.new.nodes.lodged n) other ∙ c.link.ensures.masks n
    ∙ aside_linked (not_below (c.number.result + 1) ms) _ n (masks_in c.args.nodes.now.lodged n) (c.gap_at-gap.ensures.before ms first)
    (λ y among. aside y (not_below_among (c.number.result + 1) ms y among).0)

pub returns-clause-marks : goal.returns-clause-marks
returns-clause-marks g c n other =
    let l = c.requires.list in
    ap is_some (c.put_mask_node.ensures.masks n ∙ put_aside c.args.room None n (masks_in c.link.new.nodes.lodged n) other ∙ c.link.ensures.masks n)
    ∙ marks_linked (masks_in c.args.nodes.now.lodged) l.0 (not_below (c.number.result + 1) l.0) _ n l.2.stands
    (λ y among. (not_below_among (c.number.result + 1) l.0 y among).0) (c.gap_at-gap.ensures.before l.0 (list_of c.masks_of-first.ensures.head l.2))
