use Rattle.radix_tree.proofs.{Counted.not_held, Indexed.index_begun, Indexed.same_index}
use Rattle.radix_tree.proofs.Valued.{put_valued, valued_whole, lent_shown, lent_counted, lent_given, lent_places}
use Rattle.radix_tree.proofs.Kept.{Has-found, IsFound, found, not_found, value_found, whole_next, entries_next, shown_begun, given_begun}
use Rattle.radix_tree.proofs.Words.{arith, ◌≡◌, ◌+◌, sym, ap, subst, ◌∙◌, inl, option_map, put_value, contents, IsKept, AreCounted, with_value, entry_at}
use Rattle.radix_tree.proofs.Words.{with_entry, shown, Entry}
use Rattle.radix_tree.proofs.routes.Table.get_mut.Goals.{In-Some-find_room}
use Rattle.radix_tree.proofs.routes.Table.get_mut.Goals as goal

pub returns-then-not-has : goal.returns-then-not-has
returns-then-not-has g c = grind (arith, not_held)

pub find_room-requires-clause-whole : goal.find_room-requires-clause-whole
find_room-requires-clause-whole g c = whole_next c.self.inside.nodes c.begin-visits.new.self c.self.invariant.holds c.in-Some.is c.begin-visits.ensures.turn

pub find_room-requires-clause-indexed : goal.find_room-requires-clause-indexed
find_room-requires-clause-indexed g c =
    index_begun c.self.inside.index c.self.inside.nodes c.begin-visits.new.self c.begin-visits.ensures.turn c.self.invariant.indexed

pub returns-in_default-find_room : goal.returns-in_default-find_room
returns-in_default-find_room g c =
    let w = whole_next c.self.inside.nodes c.begin-visits.new.self c.self.invariant.holds c.in-Some.is c.begin-visits.ensures.turn in
    let none = ap (entry_at c.args.key c.args.rank)
    (sym (entries_next c.self.inside.nodes c.begin-visits.new.self _ c.self.view_is c.in-Some.is c.begin-visits.ensures.turn))
    ∙ not_found w c.args.key c.args.rank c.in_default-find_room.is (c.find_room.ensures.found w) in grind arith

-- the room that was found
is_found : (g : _) (c : In-Some-find_room g) → IsFound c.begin-visits.new.self.lodged c.in-Some.root c.args.key c.args.rank c.in-Some-find_room.room
is_found g c =
    let w = whole_next c.self.inside.nodes c.begin-visits.new.self c.self.invariant.holds c.in-Some.is c.begin-visits.ensures.turn in
    found w c.args.key c.args.rank c.in-Some-find_room.is (c.find_room.ensures.found w)

pub value_mut-requires : goal.value_mut-requires
value_mut-requires g c = record { there = Has-found _ (is_found g (goal.at.value_mut-requires g c).In-Some-find_room) }

pub invariant_of-self-lent : goal.invariant_of-self-lent
invariant_of-self-lent g c = λ v.
    let m = c.begin-visits.new.self.lodged in
    let w = whole_next c.self.inside.nodes c.begin-visits.new.self c.self.invariant.holds c.in-Some.is c.begin-visits.ensures.turn in
    let has = Has-found m (is_found g (goal.at.invariant_of-self-lent g c).In-Some-find_room) in
    let before = shown_begun c.self.inside.nodes c.begin-visits.new.self c.in-Some.is c.begin-visits.ensures.turn in
    let counted = subst (AreCounted c.self.inside.counts) (sym before) c.self.invariant.counted in
    subst (λ o. IsKept (record { lodged = put_value m c.in-Some-find_room.room v; turn = c.begin-visits.new.self.turn }) o c.self.inside.counts
    c.self.inside.index c.self.inside.given c.self.inside.numbers) (sym c.in-Some.is) (record {
      holds = valued_whole (put_valued m c.in-Some-find_room.room v has) w;
      counted = lent_counted m w c.args.key c.args.rank c.in-Some-find_room.is (c.find_room.ensures.found w) has v _ counted;
      indexed = same_index c.self.inside.index m _ (lent_places m c.in-Some-find_room.room v has)
          (index_begun c.self.inside.index c.self.inside.nodes c.begin-visits.new.self c.begin-visits.ensures.turn c.self.invariant.indexed);
      numbered = lent_given m c.in-Some-find_room.room v has
          (given_begun c.self.inside.nodes c.begin-visits.new.self c.begin-visits.ensures.turn c.self.invariant.numbered);
    })

-- the table once the value is given back
lent : (g : _) (c : In-Some-find_room g) (v : g.row.V.Denot) → contents (record
    { lodged = put_value c.begin-visits.new.self.lodged c.in-Some-find_room.room v; turn = c.begin-visits.new.self.turn })
    c.self.inside.root c.self.inside.given c.self.inside.numbers ≡ with_value c.args.key c.args.rank c.args.self.now v
lent g c v =
    let m = c.begin-visits.new.self.lodged in
    let w = whole_next c.self.inside.nodes c.begin-visits.new.self c.self.invariant.holds c.in-Some.is c.begin-visits.ensures.turn in
    let e : Entry g.row.V.Denot = record { key = c.args.key; rank = c.args.rank; value = v } in
    let entries = ap (shown (put_value m c.in-Some-find_room.room v)) c.in-Some.is
    ∙ lent_shown m w c.args.key c.args.rank c.in-Some-find_room.is (c.find_room.ensures.found w) (Has-found m (is_found g c)) v
    ∙ ap (with_entry e) (entries_next c.self.inside.nodes c.begin-visits.new.self _ c.self.view_is c.in-Some.is c.begin-visits.ensures.turn) in
    let numbers = ap (λ t. t.numbers) c.self.view_is in
    let next = ap (λ t. t.next) c.self.view_is in
    let turn = ap (λ r. r.turn) c.begin-visits.ensures.turn ∙ ap (λ t. t.turn + 1) c.self.view_is in
    λ i. record { entries = entries i; numbers = numbers i; next = next i; turn = turn i }

pub returns : goal.returns
returns g c =
    let at = (goal.at.returns g c).In-Some-find_room in
    let value = ap (option_map (λ e. e.value)) (ap (entry_at c.args.key c.args.rank)
    (sym (entries_next c.self.inside.nodes c.begin-visits.new.self _ c.self.view_is c.in-Some.is c.begin-visits.ensures.turn))
    ∙ sym (value_found (is_found g at) c.value_mut.result.now c.value_mut.ensures.value)) in
    (λ t. inl (c.value_mut.result.ghost_name, λ v. lent g at v t), record { writes = tt; value = sym value })
