use Rattle.radix_tree.proofs.{MaskLists.not_below_among, Words.◌∙◌, Words.ap, Words.is_some, Words.masks_in, Words.not_below}
use Rattle.radix_tree.proofs.MaskChanges.{appended, list_of, Has-last, aside_linked, marks_linked}
use Rattle.radix_tree.proofs.masks.append.Goals as goal

pub link-requires-clause-there : goal.link-requires-clause-there
link-requires-clause-there g c room is =
    let l = c.requires.list in
    Has-last c.args.nodes.now.lodged l.0 (not_below 0 l.0) l.2.ranked (λ y among. (not_below_among 0 l.0 y among).0)
    (c.gap_at-gap.ensures.before l.0 (list_of c.masks_of-first.ensures.head l.2)) is

pub returns-clause-list : goal.returns-clause-list
returns-clause-list g c ms ts is behind falls = appended c.args.nodes.now.lodged c.link.new.nodes.lodged c.args.fork ms ts c.args.tail is behind falls
    (c.gap_at-gap.ensures.before ms (list_of c.masks_of-first.ensures.head is)) c.link.ensures.tree.leaves c.link.ensures.heads c.link.ensures.masks

pub returns-clause-masks : goal.returns-clause-masks
returns-clause-masks g c ms is n aside =
    let first = list_of c.masks_of-first.ensures.head is in
    c.link.ensures.masks n ∙ aside_linked (not_below 0 ms) _ n (masks_in c.args.nodes.now.lodged n) (c.gap_at-gap.ensures.before ms first)
    (λ y among. aside y (not_below_among 0 ms y among).0)

pub returns-clause-marks : goal.returns-clause-marks
returns-clause-marks g c n =
    let l = c.requires.list in
    ap is_some (c.link.ensures.masks n)
    ∙ marks_linked (masks_in c.args.nodes.now.lodged) l.0 (not_below 0 l.0) _ n l.2.stands (λ y among. (not_below_among 0 l.0 y among).0)
    (c.gap_at-gap.ensures.before l.0 (list_of c.masks_of-first.ensures.head l.2))
