use Rattle.radix_tree.proofs.{TableLemmas.without_absent, Gained.lost, Indexed.index_begun, Indexed.index_less, Indexed.found_place, Indexed.rooms_known}
use Rattle.radix_tree.proofs.Counted.{not_held, counted_less, given_less, one_there, went}
use Rattle.radix_tree.proofs.Kept.{Has-found, IsFound, found, not_found, whole_next, shown_next, entries_next, shown_begun, given_begun}
use Rattle.radix_tree.proofs.Words.{arith, ◌≡◌, ◌+◌, ◌==◌, if◌then◌else◌, None, sym, ap, subst, ◌∙◌, leaf_in, HasOneMore, IsKept, AreCounted, entry_at, uses}
use Rattle.radix_tree.proofs.Words.{without, shown, number_of, AreGiven, numbers_in}
use Rattle.radix_tree.proofs.routes.Table.remove.Goals.{Then-not-has, In_default-find_room, In-Some-find_room, After-take}
use Rattle.radix_tree.specs.Given.{beside}
use Rattle.radix_tree.proofs.routes.Table.remove.Goals as goal

-- a rank of which no route is held
not_there : (g : _) (c : Then-not-has g) → entry_at c.args.key c.args.rank c.args.self.now.entries ≡ None
not_there g c = grind (arith, not_held)

pub returns-then-not-has-clause-value : goal.returns-then-not-has-clause-value
returns-then-not-has-clause-value g c = search (not_there)

pub returns-then-not-has-clause-entries : goal.returns-then-not-has-clause-entries
returns-then-not-has-clause-entries g c = grind (arith, shown_next, without_absent, not_there)

pub find_room-requires-clause-whole : goal.find_room-requires-clause-whole
find_room-requires-clause-whole g c = whole_next c.self.inside.nodes c.begin-visits.new.self c.self.invariant.holds c.in-Some.is c.begin-visits.ensures.turn

pub find_room-requires-clause-indexed : goal.find_room-requires-clause-indexed
find_room-requires-clause-indexed g c =
    index_begun c.self.inside.index c.self.inside.nodes c.begin-visits.new.self c.begin-visits.ensures.turn c.self.invariant.indexed

-- a pair that was not found
not_in : (g : _) (c : In_default-find_room g) → entry_at c.args.key c.args.rank c.args.self.now.entries ≡ None
not_in g c =
    let w = whole_next c.self.inside.nodes c.begin-visits.new.self c.self.invariant.holds c.in-Some.is c.begin-visits.ensures.turn in
    ap (entry_at c.args.key c.args.rank)
    (sym (entries_next c.self.inside.nodes c.begin-visits.new.self _ c.self.view_is c.in-Some.is c.begin-visits.ensures.turn))
    ∙ not_found w c.args.key c.args.rank c.in_default-find_room.is (c.find_room.ensures.found w)

pub returns-in_default-find_room-clause-value : goal.returns-in_default-find_room-clause-value
returns-in_default-find_room-clause-value g c = search (not_in)

pub returns-in_default-find_room-clause-entries : goal.returns-in_default-find_room-clause-entries
returns-in_default-find_room-clause-entries g c = grind (arith, shown_next, without_absent, not_in)

-- the room that was found
is_found : (g : _) (c : In-Some-find_room g) → IsFound c.begin-visits.new.self.lodged c.in-Some.root c.args.key c.args.rank c.in-Some-find_room.at
is_found g c =
    let w = whole_next c.self.inside.nodes c.begin-visits.new.self c.self.invariant.holds c.in-Some.is c.begin-visits.ensures.turn in
    found w c.args.key c.args.rank c.in-Some-find_room.is (c.find_room.ensures.found w)

pub strike-requires-clause-known : goal.strike-requires-clause-known
strike-requires-clause-known g c =
    rooms_known (index_begun c.self.inside.index c.self.inside.nodes c.begin-visits.new.self c.begin-visits.ensures.turn c.self.invariant.indexed)

pub remove_route-root-requires-clause-there : goal.remove_route-root-requires-clause-there
remove_route-root-requires-clause-there g c = Has-found _ (is_found g (goal.at.remove_route-root-requires-clause-there g c).In-Some-find_room)

-- what is left of the numbers in use
taken : (g : _) (c : After-take g) → c.take.new.self ≡ beside (number_of c.in-Some-find_room.at) c.self.inside.given
taken g c = c.take.ensures ∙ ap (λ k. beside k c.self.inside.given) (c.of.ensures ∙ c.remove_route-root.ensures.number)

pub invariant_of-self-2 : goal.invariant_of-self-2
invariant_of-self-2 g c =
    let f = is_found g (goal.at.invariant_of-self-2 g c).In-Some-find_room in
    let w = whole_next c.self.inside.nodes c.begin-visits.new.self c.self.invariant.holds c.in-Some.is c.begin-visits.ensures.turn in
    let went = lost c.remove_route-root.new.nodes.lodged c.remove_route-root.result.0 w f c.remove_route-root.ensures.routes in
    let before = shown_begun c.self.inside.nodes c.begin-visits.new.self c.in-Some.is c.begin-visits.ensures.turn in
    let counted = subst (AreCounted c.self.inside.counts) (sym before) c.self.invariant.counted in
    let numbered = given_less c.begin-visits.new.self.lodged c.remove_route-root.new.nodes.lodged (number_of c.in-Some-find_room.at)
    (given_begun c.self.inside.nodes c.begin-visits.new.self c.begin-visits.ensures.turn c.self.invariant.numbered)
    (ap leaf_in c.remove_route-root.ensures.gone) c.remove_route-root.ensures.rooms in
    subst (λ r. IsKept r c.remove_route-root.result.0 c.dropped.new.self c.renew.new.index c.take.new.self c.self.inside.numbers)
    (sym c.scrap.ensures) (record {
      holds = c.remove_route-root.ensures.whole;
      counted = counted_less _ _ c.self.inside.counts c.dropped.new.self counted went.gains
          (subst (λ r. HasOneMore r c.dropped.new.self c.self.inside.counts) (sym f.has.1) c.dropped.ensures);
      indexed = index_less c.self.inside.index c.strike.new.self c.renew.new.index c.begin-visits.new.self.lodged c.remove_route-root.new.nodes.lodged
          c.in-Some-find_room.at _ (index_begun c.self.inside.index c.self.inside.nodes c.begin-visits.new.self c.begin-visits.ensures.turn c.self.invariant.indexed)
          c.strike.ensures.struck c.strike.ensures.once (found_place f) c.remove_route-root.ensures.places
          c.remove_route-root.result.0 c.remove_route-root.ensures.whole c.renew.ensures.rest c.renew.ensures.none;
      numbered = subst (λ p. AreGiven c.remove_route-root.new.nodes.lodged p c.self.inside.numbers)
          (sym (taken g (goal.at.invariant_of-self-2 g c).After-take)) numbered;
    })

pub returns-clause-value : goal.returns-clause-value
returns-clause-value g c = let f = is_found g (goal.at.returns-clause-value g c).In-Some-find_room in grind arith

pub returns-clause-entries : goal.returns-clause-entries
returns-clause-entries g c =
    let f = is_found g (goal.at.returns-clause-entries g c).In-Some-find_room in
    let w = whole_next c.self.inside.nodes c.begin-visits.new.self c.self.invariant.holds c.in-Some.is c.begin-visits.ensures.turn in
    let went = lost c.remove_route-root.new.nodes.lodged c.remove_route-root.result.0 w f c.remove_route-root.ensures.routes in
    ap (λ r. shown r.lodged c.remove_route-root.result.0) c.scrap.ensures ∙ went.entries ∙ ap (without c.args.key c.args.rank)
    (entries_next c.self.inside.nodes c.begin-visits.new.self _ c.self.view_is c.in-Some.is c.begin-visits.ensures.turn)

pub returns-clause-numbers : goal.returns-clause-numbers
returns-clause-numbers g c =
    let there = one_there c.begin-visits.new.self.lodged c.remove_route-root.new.nodes.lodged (number_of c.in-Some-find_room.at)
    (given_begun c.self.inside.nodes c.begin-visits.new.self c.begin-visits.ensures.turn c.self.invariant.numbered)
    (ap leaf_in c.remove_route-root.ensures.gone) c.remove_route-root.ensures.rooms in
    let one = went (number_of c.in-Some-find_room.at) c.self.inside.given there in (
      one.0,
      λ n. ap (λ t. uses n t.numbers) (sym c.self.view_is) ∙ one.1 n
          ∙ ap (λ p. uses n (numbers_in p) + (if one.0 == n then 1 else 0)) (sym (taken g (goal.at.returns-clause-numbers g c).After-take)),
    )
