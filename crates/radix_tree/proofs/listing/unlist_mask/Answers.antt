use Rattle.radix_tree.proofs.{WholeChanges.once_but, WholeChanges.later_than, HomeLists.placed_in}
use Rattle.radix_tree.proofs.Listed.{listed_less, homeless, homed, home_node, home_member, marked_at}
use Rattle.radix_tree.proofs.Words.{sym, subst, nobody_late, late_at, IsHome, true≢false, number_of, arith}
use Rattle.radix_tree.proofs.listing.unlist_mask.Goals as goal

pub home_of-requires-clause-whole : goal.home_of-requires-clause-whole
home_of-requires-clause-whole g c = let w = c.requires.whole in (w.0, nobody_late, w.1)

pub returns-in_default-clause-whole : goal.returns-in_default-clause-whole
returns-in_default-clause-whole g c root is = later_than (late_at (number_of c.args.room)) (λ n never. absurd (true≢false (sym never))) is

pub returns-in_default-clause-gone : goal.returns-in_default-clause-gone
returns-in_default-clause-gone g c =
    let r = c.requires.whole in
    let w = r.1 in
    let y = placed_in w c.requires.there in
    homeless w c.args.room y.0 y.1 y.2
    (subst (IsHome c.args.nodes.now.lodged y.0.entry.key y.0.entry.rank w.part) c.in_default.is (c.home_of.ensures.home r.0 nobody_late w y.0 y.1 y.2))

pub sort_out-requires-clause-node : goal.sort_out-requires-clause-node
sort_out-requires-clause-node g c =
    let r = c.requires.whole in
    let w = r.1 in
    let y = placed_in w c.requires.there in
    home_node (homed w.part y.0 y.1 y.2 c.in-Some.is (c.home_of.ensures.home r.0 nobody_late w y.0 y.1 y.2))

pub sort_out-requires-clause-list : goal.sort_out-requires-clause-list
sort_out-requires-clause-list g c =
    let r = c.requires.whole in
    let w = r.1 in
    let y = placed_in w c.requires.there in
    let h = homed w.part y.0 y.1 y.2 c.in-Some.is (c.home_of.ensures.home r.0 nobody_late w y.0 y.1 y.2) in
    home_member w h (marked_at w h)

pub returns-clause-whole : goal.returns-clause-whole
returns-clause-whole g c root is =
    let w = is in
    let y = placed_in w c.requires.there in
    let h = homed w.part y.0 y.1 y.2 c.in-Some.is (c.home_of.ensures.home root nobody_late w y.0 y.1 y.2) in
    listed_less w c.sort_out.new.nodes.lodged c.args.room c.in-Some.fork (once_but w) h (marked_at w h) (search arith)
    c.sort_out.ensures.tree.leaves c.sort_out.ensures.tree.bits
