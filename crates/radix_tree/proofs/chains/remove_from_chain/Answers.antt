use Rattle.radix_tree.proofs.{MovedReads.own_part, MovedReads.own_said, MovedReads.Has-kept, RoomReads.AreLinks}
use Rattle.radix_tree.proofs.ChainRemovals.{IsMember, IsUnlinked, IsLeft, member_of, leaf_is, unlinked, before_there, behind_there, fork_above, left_kept}
use Rattle.radix_tree.proofs.ChainRemovals.{left_renamed, removed_whole, removed_routes, unlinked_routes, own_kept, left_bits, idle_others, neighbour}
use Rattle.radix_tree.proofs.Words.{◌≡◌, ◌∙◌, Some, sym, ap, Id, leaves_in, Lodged, Node, Part, LeafPart, arith, Links, Leaf, leaf_of, number_of}
use Rattle.radix_tree.proofs.chains.remove_from_chain.Goals.{After-link_out, After-link_out-2}
use Rattle.radix_tree.specs.Removal.{IsUnlisted, TakesOut}
use Rattle.radix_tree.proofs.chains.remove_from_chain.Given as given
use Rattle.radix_tree.proofs.chains.remove_from_chain.Goals as goal

-- the route in its chain, and what is read of its leaf
at_route : {V : Type 0} {m : Lodged V} {root : Node} {at : Id} (r : IsUnlisted m root at) (links : Links) {l : Leaf} → AreLinks m at links → l ≡ leaf_of links
    → IsMember m r.whole.part (number_of at) (own_part r.there) × (l ≡ (own_part r.there).leaf)
at_route {at = at} r links are leaf = (member_of r.whole (number_of at) (own_said r.there), leaf_is links r.there (own_said r.there) are leaf)

pub link_out-requires-clause-before : goal.link_out-requires-clause-before
link_out-requires-clause-before g c r is =
    let (b, e) = at_route c.requires.route c.links.result.now c.links.ensures.links c.leaf-leaf.ensures in
    before_there _ b r (sym (ap (λ z. z.previous) e) ∙ is)

pub link_out-requires-clause-behind : goal.link_out-requires-clause-behind
link_out-requires-clause-behind g c r is = search (arith, at_route, behind_there)

pub rename-root-requires-clause-tree : goal.rename-root-requires-clause-tree
rename-root-requires-clause-tree g c up is =
    let (b, e) = at_route c.requires.route c.links.result.now c.links.ensures.links c.leaf-leaf.ensures in
    fork_above _ b up c.requires.route.whole.top (sym (ap (λ z. z.above) e) ∙ is)

pub link_out-requires-2-clause-before : goal.link_out-requires-2-clause-before
link_out-requires-2-clause-before g c r is =
    let (b, e) = at_route c.requires.route c.links.result.now c.links.ensures.links c.leaf-leaf.ensures in
    Has-kept (before_there _ b r (sym (ap (λ z. z.previous) e) ∙ is)) c.rename-root.new.nodes.lodged c.rename-root.ensures.only.leaves

pub link_out-requires-2-clause-behind : goal.link_out-requires-2-clause-behind
link_out-requires-2-clause-behind g c r is =
    let (b, e) = at_route c.requires.route c.links.result.now c.links.ensures.links c.leaf-leaf.ensures in
    Has-kept (behind_there _ b r (sym (ap (λ z. z.next) e) ∙ is)) c.rename-root.new.nodes.lodged c.rename-root.ensures.only.leaves

-- a member of a chain, whose neighbours name each other, and what stands above the chain
abbrev IsGone : {V : Type 0} (m new : Lodged V) (whole : Part m) (at : Id) (p : LeafPart V) (name : Node) → Type 0
IsGone m new whole at p name = (b : IsMember m whole (number_of at) p) × IsUnlinked m new p.leaf × IsLeft m new b.x.entry.key whole b.part b.front b.back name

-- such a one is out of the tree
out_of : {V : Type 0} {m new : Lodged V} {root : Node} {at : Id} (r : IsUnlisted m root at) (name : Node)
    → ((p : LeafPart V) → leaves_in m (number_of at) ≡ Some p → IsGone m new r.whole.part at p name) → TakesOut m new at root name
out_of {m = m} {new = new} r name goes =
    let u = goes (own_part r.there) (own_said r.there) in record {
      whole = removed_whole r.whole _ u.0 r.unmarked u.1 u.2;
      routes = λ p said. let u = goes p said in removed_routes r.whole p u.0 u.1 u.2;
      rooms = unlinked_routes m new (own_part r.there).leaf u.1.leaves;
      own = own_kept r.whole u.0 u.1;
    }

-- where no member is behind it
last_gone : (g : given.Over) (c : After-link_out g) {p : LeafPart g.row.V.Denot} → leaves_in c.args.nodes.now.lodged (number_of c.args.at) ≡ Some p
    → IsGone c.args.nodes.now.lodged c.link_out.new.nodes.lodged c.requires.route.whole.part c.args.at p c.args.root
last_gone g c {p = p} said =
    let b = member_of c.requires.route.whole (number_of c.args.at) said in
    let read = leaf_is c.links.result.now c.requires.route.there said c.links.ensures.links c.leaf-leaf.ensures in (
      b,
      search (arith, unlinked),
      left_kept c.link_out.new.nodes.lodged c.requires.route.whole b (sym (ap (λ z. z.next) read) ∙ c.in_default.is) (c.requires.chain p said)
          c.link_out.ensures.only.bits,
    )

-- where one is
gone : (g : given.Over) (c : After-link_out-2 g) {p : LeafPart g.row.V.Denot} → leaves_in c.args.nodes.now.lodged (number_of c.args.at) ≡ Some p
    → IsGone c.args.nodes.now.lodged c.link_out-2.new.nodes.lodged c.requires.route.whole.part c.args.at p c.rename-root.result
gone g c {p = p} said =
    let b = member_of c.requires.route.whole (number_of c.args.at) said in
    let read = leaf_is c.links.result.now c.requires.route.there said c.links.ensures.links c.leaf-leaf.ensures in (
      b,
      search (arith, unlinked),
      left_renamed c.link_out-2.new.nodes.lodged c.requires.route.whole b (sym (ap (λ z. z.next) read) ∙ c.in-Some.is) (search arith) (search arith),
    )

pub returns-in_default-clause-out : goal.returns-in_default-clause-out
returns-in_default-clause-out g c = out_of c.requires.route c.args.root (search (arith, last_gone))

pub returns-in_default-clause-bits : goal.returns-in_default-clause-bits
returns-in_default-clause-bits g c = search (arith, last_gone, own_said, left_bits)

pub returns-in_default-clause-idle : goal.returns-in_default-clause-idle
returns-in_default-clause-idle g c p used said is k keyed other =
    let u = last_gone g (goal.at.returns-in_default-clause-idle g c).After-link_out said in idle_others c.requires.route.whole p u.0 u.1 u.2 is k keyed other

pub returns-in_default-clause-neighbours : goal.returns-in_default-clause-neighbours
returns-in_default-clause-neighbours g c p to said side =
    let u = last_gone g (goal.at.returns-in_default-clause-neighbours g c).After-link_out said in neighbour c.requires.route.whole p u.0 u.1 to side

pub returns-clause-out : goal.returns-clause-out
returns-clause-out g c = out_of c.requires.route c.rename-root.result (search (arith, gone))

pub returns-clause-bits : goal.returns-clause-bits
returns-clause-bits g c =
    let u = gone g (goal.at.returns-clause-bits g c).After-link_out-2 (own_said c.requires.route.there) in left_bits u.2

pub returns-clause-idle : goal.returns-clause-idle
returns-clause-idle g c p used said is k keyed other =
    let u = gone g (goal.at.returns-clause-idle g c).After-link_out-2 said in idle_others c.requires.route.whole p u.0 u.1 u.2 is k keyed other

pub returns-clause-neighbours : goal.returns-clause-neighbours
returns-clause-neighbours g c p to said side =
    let u = gone g (goal.at.returns-clause-neighbours g c).After-link_out-2 said in neighbour c.requires.route.whole p u.0 u.1 to side
