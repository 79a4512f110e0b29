use Rattle.radix_tree.proofs.{Parts.fork_named, Climbs.used, Cuts.list_at, Cuts.cut_at}
use Rattle.radix_tree.proofs.BesideWhole.{new_key, whole_beside, routes_beside, Came, same_part, same_spot, exchanged_from, room_more, leaf_kept, new_there}
use Rattle.radix_tree.proofs.Words.{◌≡◌, ◌==◌, ◌||◌, refl, sym, ◌∙◌, subst, Part, LedTo, IsWhole, Differs, IsSpot, forked_tree, placed, Exchanged, arith}
use Rattle.radix_tree.proofs.Words.{IsWholeBut, HasRoomMore, has_key, nobody_out}
use Rattle.radix_tree.proofs.inserting.insert_beside.Given as given
use Rattle.radix_tree.proofs.inserting.insert_beside.Goals as goal

pub spot_above-spot-requires-clause-new : goal.spot_above-spot-requires-clause-new
spot_above-spot-requires-clause-new g c =
    let n = c.requires.new in (c.args.entry.key, new_key n.0 n.1 n.2)

pub cut-masks-requires-clause-node : goal.cut-masks-requires-clause-node
cut-masks-requires-clause-node g c fork is =
    let n = c.requires.new in
    let s = c.spot_above-spot.ensures.spot c.args.entry.key (new_key n.0 n.1 n.2) in
    used (fork_named s.at (s.named ∙ is))

pub cut-masks-requires-clause-list : goal.cut-masks-requires-clause-list
cut-masks-requires-clause-list g c fork is =
    let n = c.requires.new in
    let s = c.spot_above-spot.ensures.spot c.args.entry.key (new_key n.0 n.1 n.2) in
    list_at n.0 c.args.entry.key s.at s.ups s.way (s.named ∙ is)

pub add_beside-requires-clause-spot : goal.add_beside-requires-clause-spot
add_beside-requires-clause-spot g c =
    let n = c.requires.new in
    let s = c.spot_above-spot.ensures.spot c.args.entry.key (new_key n.0 n.1 n.2) in (
      same_part c.cut-masks.new.nodes.lodged c.cut-masks.ensures.tree.leaves c.cut-masks.ensures.tree.bits n.0.part,
      same_spot c.cut-masks.new.nodes.lodged c.cut-masks.ensures.tree.leaves c.cut-masks.ensures.tree.bits n.0.part (search arith),
    )

-- the spot, of the bit that it tells
spot_of : (g : given.Over) (c : goal.After-add_beside g) (w : IsWhole c.args.nodes.now.lodged c.args.root) (d : LedTo c.args.entry.key w.part c.args.leaf)
    → Differs c.args.entry.key d.leaf.first.entry.key c.args.bit
    → IsSpot c.args.nodes.now.lodged c.args.entry.key c.spot_above-spot.result.bit w.part c.spot_above-spot.result.above c.spot_above-spot.result.below
spot_of g c w d differs = subst (λ b. IsSpot c.args.nodes.now.lodged c.args.entry.key b w.part c.spot_above-spot.result.above c.spot_above-spot.result.below)
    (sym c.spot_above-spot.ensures.bit) (c.spot_above-spot.ensures.spot c.args.entry.key (new_key w d differs))

-- all that has come of the rooms
came_of : (g : given.Over) (c : goal.After-add_beside g) (w : IsWhole c.args.nodes.now.lodged c.args.root)
    (s : IsSpot c.args.nodes.now.lodged c.args.entry.key c.spot_above-spot.result.bit w.part c.spot_above-spot.result.above c.spot_above-spot.result.below)
    → Came c.args.nodes.now.lodged c.cut-masks.new.nodes.lodged c.add_beside.new.nodes.lodged s.at.low c.spot_above-spot.result.bit s.at.tree
    (placed c.add_beside.result.1 c.args.entry) c.spot_above-spot.result.above c.spot_above-spot.result.below
came_of g c w s = record {
  first = c.cut-masks.result;
  cut = cut_at w c.cut-masks.new.nodes.lodged c.args.entry.key _ s.at s.ups c.spot_above-spot.result.below
      c.cut-masks.result s.at.tree refl s.way s.once s.place.rises s.place.is s.named c.cut-masks.ensures.kept
      c.cut-masks.ensures.others (search arith) c.cut-masks.ensures.heads c.cut-masks.ensures.masks
      c.cut-masks.ensures.marks c.cut-masks.ensures.tree.leaves c.cut-masks.ensures.tree.bits;
  beside = c.add_beside.ensures.beside;
  heads = c.add_beside.ensures.heads;
  masks = c.add_beside.ensures.masks;
  unmarked = search arith;
}

-- the part with the route in it
part_of : (g : given.Over) (c : goal.After-add_beside g) (w : IsWhole c.args.nodes.now.lodged c.args.root)
    (s : IsSpot c.args.nodes.now.lodged c.args.entry.key c.spot_above-spot.result.bit w.part c.spot_above-spot.result.above c.spot_above-spot.result.below)
    → (u : Part c.add_beside.new.nodes.lodged) × (u.tree ≡ forked_tree c.spot_above-spot.result.bit (placed c.add_beside.result.1 c.args.entry) s.at.tree)
    × Exchanged c.args.nodes.now.lodged c.add_beside.new.nodes.lodged c.args.entry.key w.part s.at u c.add_beside.result.0
part_of g c w s =
    let e = c.add_beside.ensures.exchanged (same_part c.cut-masks.new.nodes.lodged c.cut-masks.ensures.tree.leaves c.cut-masks.ensures.tree.bits w.part)
    (search (arith, same_spot)) w.named in
    search (arith, exchanged_from)

pub returns-clause-whole : goal.returns-clause-whole
returns-clause-whole g c w d differs =
    let s = spot_of g c w d differs in
    let p = part_of g c w s in
    subst (λ r. IsWholeBut c.add_beside.new.nodes.lodged c.add_beside.result.0
    (λ n. (n == r) || has_key c.args.nodes.now.lodged d.leaf.first.entry.key n) nobody_out) c.add_beside.ensures.number
    (whole_beside w _ s p.2 d (came_of g c w s) p.1)

pub returns-clause-routes : goal.returns-clause-routes
returns-clause-routes g c =
    let n = c.requires.new in
    let s = spot_of g c n.0 n.1 n.2 in
    let p = part_of g c n.0 s in
    routes_beside n.0 (placed c.add_beside.result.1 c.args.entry) s p.2 p.1

pub returns-clause-rooms : goal.returns-clause-rooms
returns-clause-rooms g c =
    let n = c.requires.new in
    let s = spot_of g c n.0 n.1 n.2 in
    subst (HasRoomMore c.args.nodes.now.lodged c.add_beside.new.nodes.lodged) c.add_beside.ensures.number (room_more _ (came_of g c n.0 s))

pub returns-clause-there : goal.returns-clause-there
returns-clause-there g c =
    let n = c.requires.new in
    let s = spot_of g c n.0 n.1 n.2 in
    new_there _ (came_of g c n.0 s)

pub returns-clause-leaves : goal.returns-clause-leaves
returns-clause-leaves g c =
    let n = c.requires.new in
    let s = spot_of g c n.0 n.1 n.2 in
    leaf_kept _ (came_of g c n.0 s)
