use Rattle.radix_tree.proofs.{Gained.first_whole, Words.refl}
use Rattle.radix_tree.proofs.growing.insert_first.Goals as goal

pub returns-clause-whole : goal.returns-clause-whole
returns-clause-whole g c =
    (first_whole c.args.nodes.now.lodged c.lodge_leaf-id.new.nodes.lodged c.lodge_leaf-id.result _ refl c.requires.holds c.requires.route
    c.lodge_leaf-id.ensures.leaves c.lodge_leaf-id.ensures.only.bits c.lodge_leaf-id.ensures.only.masks).0

pub returns-clause-routes : goal.returns-clause-routes
returns-clause-routes g c =
    (first_whole c.args.nodes.now.lodged c.lodge_leaf-id.new.nodes.lodged c.lodge_leaf-id.result _ refl c.requires.holds c.requires.route
    c.lodge_leaf-id.ensures.leaves c.lodge_leaf-id.ensures.only.bits c.lodge_leaf-id.ensures.only.masks).1
