use Rattle.radix_tree.proofs.{MaskLists.not_below_among, Words.◌+◌, Words.◌∙◌, Words.ap, Words.is_some, Words.masks_in, Words.not_below}
use Rattle.radix_tree.proofs.MaskChanges.{list_of, Has-last, aside_linked, marks_linked, kept_of_cut, others_of_cut}
use Rattle.radix_tree.proofs.masks.cut_list.Goals as goal

pub link-requires-clause-there : goal.link-requires-clause-there
link-requires-clause-there g c room is =
    let l = c.requires.list in
    Has-last c.args.nodes.now.lodged l.0 (not_below (c.args.bit + 1) l.0) l.1.ranked (λ y among. (not_below_among (c.args.bit + 1) l.0 y among).0)
    (c.gap_at-gap.ensures.before l.0 (list_of c.masks_of-first.ensures.head l.1)) is

pub returns-clause-kept : goal.returns-clause-kept
returns-clause-kept g c ms is = kept_of_cut c.args.nodes.now.lodged c.link.new.nodes.lodged c.args.fork (c.args.bit + 1) ms is
    (c.gap_at-gap.ensures.before ms (list_of c.masks_of-first.ensures.head is)) c.link.ensures.tree.leaves c.link.ensures.heads c.link.ensures.masks

pub returns-clause-others : goal.returns-clause-others
returns-clause-others g c ms is =
    let first = list_of c.masks_of-first.ensures.head is in
    search (others_of_cut, c.gap_at-gap.ensures.before, c.gap_at-gap.ensures.behind)

pub returns-clause-masks : goal.returns-clause-masks
returns-clause-masks g c ms is n aside =
    let first = list_of c.masks_of-first.ensures.head is in
    c.link.ensures.masks n ∙ aside_linked (not_below (c.args.bit + 1) ms) _ n (masks_in c.args.nodes.now.lodged n) (c.gap_at-gap.ensures.before ms first)
    (λ y among. aside y (not_below_among (c.args.bit + 1) ms y among).0)

pub returns-clause-marks : goal.returns-clause-marks
returns-clause-marks g c n =
    let l = c.requires.list in
    ap is_some (c.link.ensures.masks n) ∙ marks_linked (masks_in c.args.nodes.now.lodged) l.0 (not_below (c.args.bit + 1) l.0) _ n l.1.stands
    (λ y among. (not_below_among (c.args.bit + 1) l.0 y among).0) (c.gap_at-gap.ensures.before l.0 (list_of c.masks_of-first.ensures.head l.1))
