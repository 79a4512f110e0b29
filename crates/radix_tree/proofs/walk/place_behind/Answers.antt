use Rattle.radix_tree.proofs.Walks.{on_zero, on_one, Read, climb_begun, Has-first, Has-over, used_over, read_over, climb_ended, begins_on, begins_rest}
use Rattle.radix_tree.proofs.Words.{◌-◌, ◌∙◌, sym, ap, arith}
use Rattle.radix_tree.proofs.walk.place_behind.Goals.{In-Some-bit_node}
use Rattle.radix_tree.proofs.walk.place_behind.Goals as goal

pub links-requires-clause-there : goal.links-requires-clause-there
links-requires-clause-there g c = Has-first c.args.first c.requires.first

pub loop-above-init : goal.loop-above-init
loop-above-init g c = grind (arith, climb_begun, c.links.ensures.visit, c.requires.turn, c.requires.first, c.links.ensures.links, c.leaf-above.ensures)

pub links-requires-in-Some-clause-there : goal.links-requires-in-Some-clause-there
links-requires-in-Some-clause-there g c = search (Has-over)

pub unreachable-requires : goal.unreachable-requires
unreachable-requires g c = used_over c.loop-above.invariant.climb c.in-Some.up c.links-in-Some.result.now c.in-Some.is c.links-in-Some.ensures.links
    (grind arith)

-- what the bit node above says
node : (g : _) (c : In-Some-bit_node g) → Read c.args.nodes.now.lodged c.args.key c.args.first c.in-Some-bit_node.node
    (c.loop-above.visits.count - c.args.visits.now.count) (c.links-in-Some.new.visits.count - c.args.visits.now.count)
node g c =
    read_over c.args.key _ c.in-Some.up c.links-in-Some.result.now c.loop-above.invariant.climb c.in-Some.is c.links-in-Some.ensures.links
    (sym c.bit_node.ensures ∙ c.in-Some-bit_node.is) (omega (arith, ap (λ v. v.count) c.links-in-Some.ensures.visit))

pub is_one-requires : goal.is_one-requires
is_one-requires g c = (node g (goal.at.is_one-requires g c).In-Some-bit_node).within

pub first_place-requires-clause-tree : goal.first_place-requires-clause-tree
first_place-requires-clause-tree g c = (node g (goal.at.first_place-requires-clause-tree g c).In-Some-bit_node).named

pub returns-then-not-is_one-clause-on : goal.returns-then-not-is_one-clause-on
returns-then-not-is_one-clause-on g c =
    let n = node g (goal.at.returns-then-not-is_one-clause-on g c).In-Some-bit_node in
    begins_on c.first_place.result (n.turn (on_zero c.in-Some-bit_node.node.bit c.args.key c.is_one.ensures c.if-not-is_one.true) c.first_place.result.first
    c.first_place.ensures.led) c.first_place.ensures.room

pub returns-then-not-is_one-clause-rest : goal.returns-then-not-is_one-clause-rest
returns-then-not-is_one-clause-rest g c = search (begins_rest, on_zero, (node g (goal.at.returns-then-not-is_one-clause-rest g c).In-Some-bit_node).turn)

pub loop-above-preserved : goal.loop-above-preserved
loop-above-preserved g c =
    let n = node g (goal.at.loop-above-preserved g c).In-Some-bit_node in
    let count = ap (λ v. v.count) c.links-in-Some.ensures.visit in
    let rises = c.loop-above.invariant.rises in
    record {
      turn = ap (λ v. v.turn) c.links-in-Some.ensures.visit ∙ c.loop-above.invariant.turn;
      climb = n.up (on_one c.in-Some-bit_node.node.bit c.args.key c.is_one.ensures c.if-not-is_one.false);
      rises = omega arith;
    }

pub returns-clause-rest : goal.returns-clause-rest
returns-clause-rest g c = search (climb_ended)
