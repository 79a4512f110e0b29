use Rattle.radix_tree.proofs.{MovedReads.Has_kept, MovedReads.content_lift, MovedWhole.whole_moved, MovedWhole.routes_moved}
use Rattle.radix_tree.proofs.MoveWrites.{over_used, IsMove, IsMoved, move_of, left_there, right_there, contents_stay, lifted_stay, beneath_there, gone}
use Rattle.radix_tree.proofs.Words.{◌∙◌, sym, number_of, arith}
use Rattle.radix_tree.proofs.moving.vacate.Goals.{In-Some, After-root_after}
use Rattle.radix_tree.proofs.moving.vacate.Given as given
use Rattle.radix_tree.proofs.moving.vacate.Goals as goal

-- the bit node that moves, and its place
move : (g : given.Over) (c : In-Some g) → IsMove c.args.nodes.now.lodged c.args.root c.args.from c.args.to c.in-Some.node
move g c = move_of c.args.from c.args.to c.links.result.now c.requires.whole c.requires.from c.requires.takes c.links.ensures.links
    (sym c.bit_node.ensures ∙ c.in-Some.is)

-- all that the writes leave
moved : (g : given.Over) (c : After-root_after g) → IsMoved c.args.nodes.now.lodged c.rename_child.new.nodes.lodged c.args.from c.args.to c.in-Some.node
moved g c = search arith

pub lift-requires-clause-tree : goal.lift-requires-clause-tree
lift-requires-clause-tree g c = left_there (move g (goal.at.lift-requires-clause-tree g c).In-Some)

pub lift-requires-2-clause-tree : goal.lift-requires-2-clause-tree
lift-requires-2-clause-tree g c =
    right_there (move g (goal.at.lift-requires-2-clause-tree g c).In-Some) c.lift.new.nodes.lodged c.lift.ensures.leaves c.lift.ensures.bits

pub put_bit_node-requires-clause-there : goal.put_bit_node-requires-clause-there
put_bit_node-requires-clause-there g c = Has_kept c.lift-2.new.nodes.lodged (search (arith, content_lift)) c.requires.from

pub put_bit_node-requires-2-clause-there : goal.put_bit_node-requires-2-clause-there
put_bit_node-requires-2-clause-there g c = Has_kept c.put_bit_node.new.nodes.lodged (search (arith, content_lift)) c.requires.to

pub rename_child-requires-clause-used : goal.rename_child-requires-clause-used
rename_child-requires-clause-used g c up is = over_used (move g (goal.at.rename_child-requires-clause-used g c).In-Some) up is (search arith)

pub rename_child-requires-clause-from : goal.rename_child-requires-clause-from
rename_child-requires-clause-from g c =
    Has_kept c.put_bit_node-2.new.nodes.lodged (lifted_stay c.args.nodes.now.lodged c.put_bit_node-2.new.nodes.lodged c.args.to c.in-Some.node
    (search arith) (number_of c.args.from)) c.requires.from

pub rename_child-requires-clause-beneath : goal.rename_child-requires-clause-beneath
rename_child-requires-clause-beneath g c up is =
    beneath_there (move g (goal.at.rename_child-requires-clause-beneath g c).In-Some) up is (search arith)
    (lifted_stay c.args.nodes.now.lodged c.put_bit_node-2.new.nodes.lodged c.args.to c.in-Some.node (search arith))

pub returns-clause-whole : goal.returns-clause-whole
returns-clause-whole g c = whole_moved (move g (goal.at.returns-clause-whole g c).In-Some) (moved g c) c.root_after.ensures

pub returns-clause-gone : goal.returns-clause-gone
returns-clause-gone g c = gone (moved g c) (move g (goal.at.returns-clause-gone g c).In-Some)

pub returns-clause-routes : goal.returns-clause-routes
returns-clause-routes g c = routes_moved (move g (goal.at.returns-clause-routes g c).In-Some) (moved g c) c.root_after.ensures

pub returns-clause-rooms : goal.returns-clause-rooms
returns-clause-rooms g c = contents_stay (moved g c)
