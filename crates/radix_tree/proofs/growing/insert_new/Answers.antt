use Rattle.radix_tree.proofs.Gained.{gains_same, new_left, led_begun, still_begun, same_begun, still_key}
use Rattle.radix_tree.proofs.Words.{has_key, arith}
use Rattle.radix_tree.proofs.growing.insert_new.Goals as goal

pub list_mask-requires-clause-whole : goal.list_mask-requires-clause-whole
list_mask-requires-clause-whole g c =
    let i = c.requires.new in (c.insert_beside-root.result.0, _, c.insert_beside-root.ensures.whole i.0 i.1 i.2)

pub list_mask-requires-clause-there : goal.list_mask-requires-clause-there
list_mask-requires-clause-there g c = c.insert_beside-root.ensures.there

pub list_mask-requires-clause-unmarked : goal.list_mask-requires-clause-unmarked
list_mask-requires-clause-unmarked g c = search arith

pub list_chain-requires-clause-whole : goal.list_chain-requires-clause-whole
list_chain-requires-clause-whole g c =
    let i = c.requires.new in
    (c.insert_beside-root.result.0, _, c.list_mask.ensures.whole c.insert_beside-root.result.0 _ (c.insert_beside-root.ensures.whole i.0 i.1 i.2))

pub list_chain-requires-clause-first : goal.list_chain-requires-clause-first
list_chain-requires-clause-first g c =
    let i = c.requires.new in
    let b = same_begun c.list_mask.new.nodes.lodged
    (still_begun c.insert_beside-root.new.nodes.lodged (led_begun c.args.nodes.now.lodged i.1) c.insert_beside-root.ensures.leaves)
    c.list_mask.ensures.tree.leaves in (b.part, b.at, b.block, b.previous)

pub returns-clause-whole : goal.returns-clause-whole
returns-clause-whole g c =
    let i = c.requires.new in
    let m = c.args.nodes.now.lodged in
    let key = i.1.leaf.first.entry.key in
    let b = same_begun c.list_mask.new.nodes.lodged
    (still_begun c.insert_beside-root.new.nodes.lodged (led_begun m i.1) c.insert_beside-root.ensures.leaves) c.list_mask.ensures.tree.leaves in
    new_left c.list_chain.new.nodes.lodged c.list_mask.new.nodes.lodged c.args.room key b.part.leaf.key (has_key m key)
    c.insert_beside-root.ensures.number b.key_is (search (arith, still_key))
    (c.list_chain.ensures.whole c.insert_beside-root.result.0 _ b.part (c.list_mask.ensures.whole c.insert_beside-root.result.0 _
    (c.insert_beside-root.ensures.whole i.0 i.1 i.2)) b.at)

pub returns-clause-routes : goal.returns-clause-routes
returns-clause-routes g c = search (arith, gains_same)
