use Rattle.radix_tree.proofs.Beside.{whole_forked, over_there, below_there, beside}
use Rattle.radix_tree.proofs.Words.{◌≡◌, sym, subst, Part, forked_tree, placed, Exchanged, arith}
use Rattle.radix_tree.proofs.inserting.add_beside.Goals as goal

pub name_child-requires-clause-tree : goal.name_child-requires-clause-tree
name_child-requires-clause-tree g c over is =
    let s = c.requires.spot in
    over_there _ s.1 c.lodge_forked-id.ensures.lodged is

pub lift-requires-clause-tree : goal.lift-requires-clause-tree
lift-requires-clause-tree g c =
    let s = c.requires.spot in
    below_there _ s.1 c.lodge_forked-id.ensures.lodged c.name_child.new.nodes.lodged c.name_child.ensures.only.leaves c.name_child.ensures.bits

pub returns-clause-beside : goal.returns-clause-beside
returns-clause-beside g c = search (arith, beside)

pub returns-clause-exchanged : goal.returns-clause-exchanged
returns-clause-exchanged g c p s named =
    let b = beside c.name_child.new.nodes.lodged c.lift.new.nodes.lodged p s
    c.lodge_forked-id.ensures.lodged c.name_child.ensures.only.leaves c.name_child.ensures.bits c.lift.ensures.leaves c.lift.ensures.bits in
    subst (λ z. (u : Part c.lift.new.nodes.lodged) × (u.tree ≡ forked_tree c.args.spot.bit (placed c.lodge_forked-id.result c.args.entry) s.at.tree)
    × Exchanged c.args.nodes.now.lodged c.lift.new.nodes.lodged c.args.entry.key p s.at u z) (sym c.root_after.ensures)
    (whole_forked _ s b c.requires.route named)

pub returns-clause-heads : goal.returns-clause-heads
returns-clause-heads g c n = search arith

pub returns-clause-masks : goal.returns-clause-masks
returns-clause-masks g c n = search arith
