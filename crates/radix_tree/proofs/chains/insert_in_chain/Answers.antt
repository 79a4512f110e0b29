use Rattle.radix_tree.proofs.{Parts.leaf_begins, Indexed.linked_place}
use Rattle.radix_tree.proofs.MovedReads.{Has-lodged, Has-kept, Has-next, Has-linked_in}
use Rattle.radix_tree.proofs.ChainInserts.{chain_of, gap_before, gap_behind, gap_above, lodged_above, linked_rooms, inserted_whole, inserted_routes, IsWritten}
use Rattle.radix_tree.proofs.ChainInserts.{taken_there}
use Rattle.radix_tree.proofs.Words.{◌==◌, ◌||◌, ◌∙◌, Some, sym, ap, subst, is_some, LeafOf, leaves_in, arith, Gains, shown, IsWholeBut, late_at, nobody_out}
use Rattle.radix_tree.proofs.Words.{root_past, FindsGap, pair, place_of, places_in, with_place}
use Rattle.radix_tree.proofs.chains.insert_in_chain.Goals.{In-Some, After-name_back}
use Rattle.radix_tree.proofs.chains.insert_in_chain.Given as given
use Rattle.radix_tree.proofs.chains.insert_in_chain.Goals as goal

-- the gap for the route
in_gap : (g : given.Over) (c : In-Some g) → FindsGap c.args.entry.key c.args.entry.rank (chain_of c.requires.led.1) (Some c.in-Some.leaf)
in_gap g c = search (arith, chain_of, leaf_begins)

-- the route in it
linked : (g : given.Over) (c : After-name_back g) → IsWritten c.args.nodes.now.lodged c.name_back.new.nodes.lodged c.lodge_leaf-id.result c.args.entry
    c.in-Some.leaf
linked g c = search arith

pub gap-requires-clause-chain : goal.gap-requires-clause-chain
gap-requires-clause-chain g c = let r = c.requires.led in (chain_of r.1, leaf_begins r.1.leaf)

pub returns-in_default-clause-there : goal.returns-in_default-clause-there
returns-in_default-clause-there g c v =
    let r = c.requires.led in
    taken_there c.args.entry.key c.args.entry.rank r.0 v r.1 r.2 (subst (FindsGap c.args.entry.key c.args.entry.rank (chain_of r.1)) c.in_default.is
    (c.gap.ensures.gap (chain_of r.1) (leaf_begins r.1.leaf)))

pub rename-root-requires-clause-tree : goal.rename-root-requires-clause-tree
rename-root-requires-clause-tree g c up is =
    let r = c.requires.led in
    lodged_above c.args.nodes.now.lodged c.lodge_leaf-id.new.nodes.lodged c.lodge_leaf-id.result c.args.entry.value c.in-Some.leaf up (search arith)
    c.lodge_leaf-id.ensures.leaves c.lodge_leaf-id.ensures.only.bits
    (gap_above c.args.nodes.now.lodged r.0.part r.1 r.0.top (in_gap g (goal.at.rename-root-requires-clause-tree g c).In-Some) up is)

pub name_next-requires-clause-there : goal.name_next-requires-clause-there
name_next-requires-clause-there g c at is =
    let r = c.requires.led in
    Has-kept (Has-lodged (gap_before r.1 (in_gap g (goal.at.name_next-requires-clause-there g c).In-Some) at is) c.lodge_leaf-id.new.nodes.lodged
    c.lodge_leaf-id.result c.args.entry.value c.in-Some.leaf (search arith) c.lodge_leaf-id.ensures.leaves)
    c.rename-root.new.nodes.lodged c.rename-root.ensures.only.leaves

pub name_back-requires-clause-there : goal.name_back-requires-clause-there
name_back-requires-clause-there g c at is =
    let r = c.requires.led in
    Has-next (Has-kept (Has-lodged (gap_behind r.1 (in_gap g (goal.at.name_back-requires-clause-there g c).In-Some) at is) c.lodge_leaf-id.new.nodes.lodged
    c.lodge_leaf-id.result c.args.entry.value c.in-Some.leaf (search arith) c.lodge_leaf-id.ensures.leaves)
    c.rename-root.new.nodes.lodged c.rename-root.ensures.only.leaves) c.name_next.new.nodes.lodged c.in-Some.leaf.previous _ c.name_next.ensures.leaves

pub returns-clause-ok : goal.returns-clause-ok
returns-clause-ok g c =
    let r = c.requires.led in
    subst (λ z. IsWholeBut c.name_back.new.nodes.lodged z (late_at c.args.room) nobody_out) (sym c.rename-root.ensures.root)
    (subst (λ k. IsWholeBut c.name_back.new.nodes.lodged (root_past c.in-Some.leaf.previous c.in-Some.leaf.above (LeafOf c.lodge_leaf-id.result)
    c.args.root) (late_at k) nobody_out) c.lodge_leaf-id.ensures.number
    (inserted_whole c.args.entry r.0 r.1 (in_gap g (goal.at.returns-clause-ok g c).In-Some) c.name_back.new.nodes.lodged c.lodge_leaf-id.result r.2
    c.requires.route (linked g (goal.at.returns-clause-ok g c).After-name_back)))

pub returns-clause-routes : goal.returns-clause-routes
returns-clause-routes g c =
    let r = c.requires.led in
    subst (λ z. Gains c.args.entry (shown c.args.nodes.now.lodged (Some c.args.root)) (shown c.name_back.new.nodes.lodged (Some z)))
    (sym c.rename-root.ensures.root)
    (inserted_routes c.args.entry r.0 r.1 (in_gap g (goal.at.returns-clause-routes g c).In-Some) c.name_back.new.nodes.lodged c.lodge_leaf-id.result r.2
    c.requires.route (search (arith, linked)))

pub returns-clause-rooms : goal.returns-clause-rooms
returns-clause-rooms g c n = linked_rooms c.args.nodes.now.lodged c.name_back.new.nodes.lodged c.lodge_leaf-id.result c.args.entry.value c.in-Some.leaf
    (linked g (goal.at.returns-clause-rooms g c).After-name_back).leaves n
    ∙ ap (λ k. (n == k) || is_some (leaves_in c.args.nodes.now.lodged n)) c.lodge_leaf-id.ensures.number

pub returns-clause-here : goal.returns-clause-here
returns-clause-here g c = Has-linked_in c.args.nodes.now.lodged c.name_back.new.nodes.lodged c.lodge_leaf-id.result c.args.entry.value c.in-Some.leaf
    (linked g (goal.at.returns-clause-here g c).After-name_back).leaves

pub returns-clause-places : goal.returns-clause-places
returns-clause-places g c n =
    let at = goal.at.returns-clause-places g c in
    ap place_of ((linked g at.After-name_back).leaves n)
    ∙ linked_place c.lodge_leaf-id.result c.args.entry.value c.in-Some.leaf n (leaves_in c.args.nodes.now.lodged n)
    ∙ ap (λ l. with_place c.lodge_leaf-id.result (pair l.key l.rank) n (places_in c.args.nodes.now.lodged n)) (in_gap g at.In-Some).leaf
