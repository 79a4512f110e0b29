use Rattle.radix_tree.proofs.{WholeChanges.once_but, HomeLists.placed_in, Words.subst, Words.IsHome, Words.arith}
use Rattle.radix_tree.proofs.Listed.{listed_more, never_late, homed, home_node, home_masks, home_free}
use Rattle.radix_tree.proofs.listing.list_mask.Goals as goal

pub returns-in_default-clause-whole : goal.returns-in_default-clause-whole
returns-in_default-clause-whole g c root late w =
    let y = placed_in w c.requires.there in
    never_late w c.args.room y.0 y.1 y.2
    (subst (IsHome c.args.nodes.now.lodged y.0.entry.key y.0.entry.rank w.part) c.in_default.is (c.home_of.ensures.home root late w y.0 y.1 y.2))

pub sort_in-requires-clause-node : goal.sort_in-requires-clause-node
sort_in-requires-clause-node g c =
    let w = c.requires.whole in
    let y = placed_in w.2 c.requires.there in
    home_node (homed w.2.part y.0 y.1 y.2 c.in-Some.is (c.home_of.ensures.home w.0 w.1 w.2 y.0 y.1 y.2))

pub sort_in-requires-clause-list : goal.sort_in-requires-clause-list
sort_in-requires-clause-list g c =
    let w = c.requires.whole in
    let y = placed_in w.2 c.requires.there in
    home_masks w.2 (homed w.2.part y.0 y.1 y.2 c.in-Some.is (c.home_of.ensures.home w.0 w.1 w.2 y.0 y.1 y.2))

pub sort_in-requires-clause-free : goal.sort_in-requires-clause-free
sort_in-requires-clause-free g c =
    let w = c.requires.whole in
    let y = placed_in w.2 c.requires.there in
    home_free w.2.part (homed w.2.part y.0 y.1 y.2 c.in-Some.is (c.home_of.ensures.home w.0 w.1 w.2 y.0 y.1 y.2)) c.requires.unmarked

pub returns-clause-whole : goal.returns-clause-whole
returns-clause-whole g c root late w =
    let y = placed_in w c.requires.there in
    listed_more c.args.nodes.now.lodged c.sort_in.new.nodes.lodged late w c.args.room c.in-Some.fork (once_but w)
    (homed w.part y.0 y.1 y.2 c.in-Some.is (c.home_of.ensures.home root late w y.0 y.1 y.2)) c.requires.unmarked (search arith)
    c.sort_in.ensures.tree.leaves c.sort_in.ensures.tree.bits
