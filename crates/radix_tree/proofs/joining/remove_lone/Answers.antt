use Rattle.radix_tree.proofs.{Parts.way_lists, MovedReads.Has-kept, MovedReads.Has_kept, JoinSides.head_off}
use Rattle.radix_tree.proofs.JoinWhole.{IsJoined, handed_on, routes_kept, idle_stays, freed, whole_joined, routes_joined, own_leaf, lone_read, never_top}
use Rattle.radix_tree.proofs.JoinWhole.{key_read, Has-up, never_unused, up_read, above_after, beneath_after, IsUp, joined, idle_joined}
use Rattle.radix_tree.proofs.Words.{◌∙◌, ap, sym, subst, IsLone, root_after, name_of, arith}
use Rattle.radix_tree.proofs.joining.remove_lone.Goals.{In-Some, In-Some-bit_node, After-root_after}
use Rattle.radix_tree.specs.Removal.{TakesOut}
use Rattle.radix_tree.proofs.joining.remove_lone.Given as given
use Rattle.radix_tree.proofs.joining.remove_lone.Goals as goal

-- the route, and the bit node above it, as they are read
lone : (g : given.Over) (c : In-Some g) → IsLone c.args.nodes.now.lodged c.requires.route.whole.part c.args.at c.in-Some.up
lone g c = search (arith, lone_read)

read : (g : given.Over) (c : In-Some-bit_node g) → (l : IsLone c.args.nodes.now.lodged c.requires.route.whole.part c.args.at c.in-Some.up)
    × IsUp c.args.nodes.now.lodged c.requires.route.whole.part c.args.at c.in-Some.up l c.in-Some-bit_node.node c.leaf-leaf.result.key
read g c =
    let l = lone_read c.requires.route.there c.requires.route.whole c.links.result.now c.links.ensures.links c.leaf-leaf.ensures c.requires.lone c.in-Some.is
    in (l, search (arith, up_read, key_read))

-- and what the writes leave
done : (g : given.Over) (c : After-root_after g) → (l : IsLone c.args.nodes.now.lodged c.requires.route.whole.part c.args.at c.in-Some.up)
    × IsUp c.args.nodes.now.lodged c.requires.route.whole.part c.args.at c.in-Some.up l c.in-Some-bit_node.node c.leaf-leaf.result.key
    × IsJoined c.args.nodes.now.lodged c.join.new.nodes.lodged c.requires.route.whole.part c.args.at c.in-Some.up l
done g c =
    let l = lone_read c.requires.route.there c.requires.route.whole c.links.result.now c.links.ensures.links c.leaf-leaf.ensures c.requires.lone c.in-Some.is in
    let key = key_read c.requires.route.there c.links.result.now l c.links.ensures.links c.leaf-leaf.ensures in
    let u = up_read l c.links-2.result.now c.links-2.ensures.links (sym c.bit_node.ensures ∙ c.in-Some-bit_node.is) key in (
      l,
      u,
      search (arith, joined),
    )

pub unreachable-requires : goal.unreachable-requires
unreachable-requires g c = search (arith, never_top)

pub links-requires-2-clause-there : goal.links-requires-2-clause-there
links-requires-2-clause-there g c =
    let l = lone g (goal.at.links-requires-2-clause-there g c).In-Some in
    Has-up l

pub unreachable-requires-in_default-bit_node : goal.unreachable-requires-in_default-bit_node
unreachable-requires-in_default-bit_node g c =
    let l = lone g (goal.at.unreachable-requires-in_default-bit_node g c).In-Some in
    search (arith, never_unused)

pub sibling_of-to-requires : goal.sibling_of-to-requires
sibling_of-to-requires g c =
    let (l, u) = read g (goal.at.sibling_of-to-requires g c).In-Some-bit_node in
    u.bit

pub hand_masks_on-requires-clause-lone : goal.hand_masks_on-requires-clause-lone
hand_masks_on-requires-clause-lone g c =
    let (l, u) = read g (goal.at.hand_masks_on-requires-clause-lone g c).In-Some-bit_node in (
      c.requires.route.whole.part,
      c.args.at,
      c.in-Some.up,
      l,
      u.to ∙ sym c.sibling_of-to.ensures,
      u.head,
      c.requires.route.unmarked,
      search (arith, way_lists),
    )

pub join-requires-clause-up : goal.join-requires-clause-up
join-requires-clause-up g c =
    let l = lone g (goal.at.join-requires-clause-up g c).In-Some in
    Has-kept (Has-up l) c.hand_masks_on.new.nodes.lodged c.hand_masks_on.ensures.tree.leaves

pub join-requires-clause-above : goal.join-requires-clause-above
join-requires-clause-above g c over is =
    let (l, u) = read g (goal.at.join-requires-clause-above g c).In-Some-bit_node in
    above_after l c.hand_masks_on.new.nodes.lodged c.hand_masks_on.ensures.tree.leaves c.hand_masks_on.ensures.tree.bits u.above is

pub join-requires-clause-beneath : goal.join-requires-clause-beneath
join-requires-clause-beneath g c =
    let (l, u) = read g (goal.at.join-requires-clause-beneath g c).In-Some-bit_node in
    beneath_after l c.hand_masks_on.new.nodes.lodged c.hand_masks_on.ensures.tree.leaves c.hand_masks_on.ensures.tree.bits u.above
    (u.to ∙ sym c.sibling_of-to.ensures)

pub returns-clause-out : goal.returns-clause-out
returns-clause-out g c =
    let (l, u, j) = done g (goal.at.returns-clause-out g c).After-root_after in
    let named = u.to ∙ sym c.sibling_of-to.ensures in
    let h = handed_on l c.hand_masks_on.new.nodes.lodged c.join.new.nodes.lodged
    (c.hand_masks_on.ensures.handed c.requires.route.whole.part c.args.at c.in-Some.up l named u.head c.requires.route.unmarked (search (arith, way_lists)))
    c.join.ensures.masks (search (arith, head_off)) in
    subst (TakesOut c.args.nodes.now.lodged c.join.new.nodes.lodged c.args.at c.args.root)
    (ap (λ o. root_after o (name_of l.other) c.args.root) u.above ∙ ap (λ z. root_after c.in-Some-bit_node.node.above z c.args.root) named
    ∙ sym c.root_after.ensures)
    (search (arith, whole_joined, routes_joined, routes_kept, own_leaf))

pub returns-clause-there : goal.returns-clause-there
returns-clause-there g c =
    let (l, u, j) = done g (goal.at.returns-clause-there g c).After-root_after in
    Has_kept c.join.new.nodes.lodged (routes_kept l j _) (Has-up l)

pub returns-clause-free : goal.returns-clause-free
returns-clause-free g c =
    let (l, u, j) = done g (goal.at.returns-clause-free g c).After-root_after in
    freed l j

pub returns-clause-idle : goal.returns-clause-idle
returns-clause-idle g c p said n of_key other =
    let (l, u, j) = done g (goal.at.returns-clause-idle g c).After-root_after in
    idle_joined c.args.nodes.now.lodged c.join.new.nodes.lodged c.requires.route.whole c.in-Some.up l (routes_kept l j) (idle_stays l j)
    (freed l j) p said n of_key
