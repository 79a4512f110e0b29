use Rattle.radix_tree.proofs.{Counted.few_held, Counted.counted_more, Counted.given_more, WholeRoutes.gains_entry, Kept.shown_table, Kept.whole_at}
use Rattle.radix_tree.proofs.Indexed.{absent_place, index_keeps, index_more, kept_keeps, rooms_known}
use Rattle.radix_tree.proofs.Words.{◌≡◌, ℕ, ◌+◌, ◌<◌, ◌∷◌, Some, None, sym, ap, subst, ◌∙◌, arith, HasOneMore, AreCounted, entry_at, uses, with_entry}
use Rattle.radix_tree.proofs.Words.{shown, Holds, leaf_in, leaves_in, Ptr, AreGiven, numbers_in, HasPlaceMore, Indexes, pair, place_of, places_in, number_of}
use Rattle.radix_tree.proofs.routes.Table.put.Goals.{In-Ok, After-vacancy-vacancy}
use Rattle.radix_tree.proofs.routes.Table.put.Goals as goal

pub near_leaf-near-requires-clause-indexed : goal.near_leaf-near-requires-clause-indexed
near_leaf-near-requires-clause-indexed g c =
    subst (λ r. Indexes c.self.inside.index r.lodged) (sym c.spare-space.ensures.stays) c.self.invariant.indexed

pub near_leaf-near-requires-clause-whole : goal.near_leaf-near-requires-clause-whole
near_leaf-near-requires-clause-whole g c =
    whole_at _ (subst (λ r. Holds r.lodged c.self.inside.root) (sym c.spare-space.ensures.stays) c.self.invariant.holds) c.in-Some.is

pub vacancy-vacancy-requires-clause-known : goal.vacancy-vacancy-requires-clause-known
vacancy-vacancy-requires-clause-known g c =
    rooms_known (subst (λ r. Indexes c.self.inside.index r.lodged) (sym c.spare-space.ensures.stays) c.self.invariant.indexed)

pub added-requires : goal.added-requires
added-requires g c = grind (arith, few_held, shown_table)

-- the routes were those of the table
before : (g : _) (c : In-Ok g) → shown c.spare-space.new.self.lodged c.self.inside.root ≡ c.args.self.now.entries
before g c = ap (λ r. shown r.lodged c.self.inside.root) c.spare-space.ensures.stays ∙ ap (λ t. t.entries) c.self.view_is

-- the pair was not there
absent : (g : _) (c : In-Ok g) → entry_at c.args.key c.args.rank c.args.self.now.entries ≡ None
absent g c = ap (entry_at c.args.key c.args.rank) (sym (before g c))
    ∙ ap (λ e. entry_at e.key e.rank (shown c.spare-space.new.self.lodged c.self.inside.root)) (sym c.of-entry.ensures.entry)
    ∙ (gains_entry c.in-Ok.ensures.routes (shown_table c.insert.new.nodes.lodged (Some c.in-Ok.root) c.in-Ok.ensures.whole)).1

-- no route stood in the room
is_free : (g : _) (c : In-Ok g) → leaves_in c.spare-space.new.self.lodged c.spare-space.result ≡ None
is_free g c = ap (λ r. leaves_in r.lodged c.spare-space.result) c.spare-space.ensures.stays
    ∙ ap (leaves_in c.self.inside.nodes.lodged) c.spare-space.ensures.room ∙ ap leaf_in c.spare-space.ensures.free

-- the rooms in use have their numbers, and so has the new one
numbered : (g : _) (c : In-Ok g) → AreGiven c.insert.new.nodes.lodged ((c.spare-space.result, c.room.inside.number.value) ∷ c.self.inside.given)
    c.self.inside.numbers
numbered g c =
    let made : c.room.inside.number.value < c.self.inside.numbers + 1 = omega (arith, c.requires.made, ap (λ t. t.next) c.self.view_is) in
    let unused = ap (λ k. uses k (numbers_in c.self.inside.given)) c.room.view_is ∙ ap (λ t. uses c.args.room t.numbers) c.self.view_is ∙ c.requires.free in
    given_more c.spare-space.new.self.lodged c.insert.new.nodes.lodged c.spare-space.result c.room.inside.number.value
    (subst (λ r. AreGiven r.lodged c.self.inside.given c.self.inside.numbers) (sym c.spare-space.ensures.stays) c.self.invariant.numbered)
    (is_free g c) c.in-Ok.ensures.rooms made unused

-- no room had a route of the pair
unplaced : (g : _) (c : In-Ok g) (n : ℕ) (b : Ptr) → places_in c.spare-space.new.self.lodged n ≡ Some (b, pair c.args.key c.args.rank) → ⊥
unplaced g c =
    let holds = subst (λ r. Holds r.lodged c.self.inside.root) (sym c.spare-space.ensures.stays) c.self.invariant.holds in
    absent_place c.spare-space.new.self.lodged c.self.inside.root c.args.key c.args.rank (grind arith) holds
    (ap (entry_at c.args.key c.args.rank) (before g c) ∙ absent g c)

-- what the index has for pairs, once a place was kept for the new one
indexed : (g : _) (c : After-vacancy-vacancy g) → Indexes c.vacancy-vacancy.new.self c.spare-space.new.self.lodged
indexed g c = index_keeps c.self.inside.index c.vacancy-vacancy.new.self c.spare-space.new.self.lodged c.vacancy-vacancy.ensures.keeps
    (subst (λ r. Indexes c.self.inside.index r.lodged) (sym c.spare-space.ensures.stays) c.self.invariant.indexed)

-- so the index has no room for the pair
pub enter-requires-clause-absent : goal.enter-requires-clause-absent
enter-requires-clause-absent g c room names =
    let at = (goal.at.enter-requires-clause-absent g c).In-Ok in
    unplaced g at (number_of room) room.block ((indexed g (goal.at.enter-requires-clause-absent g c).After-vacancy-vacancy).found (pair c.args.key c.args.rank) room names)

pub enter-requires-clause-kept_for : goal.enter-requires-clause-kept_for
enter-requires-clause-kept_for g c = c.vacancy-vacancy.ensures.kept_for

pub invariant_of-self : goal.invariant_of-self
invariant_of-self g c = kept_keeps c.self.inside.index c.vacancy-vacancy.new.self c.self.inside.nodes c.insert.new.nodes c.self.invariant
    c.vacancy-vacancy.ensures.keeps (ap (λ r. r.lodged) c.in-Err.ensures.err ∙ ap (λ r. r.lodged) c.spare-space.ensures.stays)

pub invariant_of-self-in-Ok : goal.invariant_of-self-in-Ok
invariant_of-self-in-Ok g c =
    let at = (goal.at.invariant_of-self-in-Ok g c).In-Ok in
    let m = c.spare-space.new.self.lodged in
    let shown_as = ap (λ r. shown r.lodged c.self.inside.root) c.spare-space.ensures.stays in
    let put = c.put.ensures ∙ ap (λ k. (k, c.room.inside.number.value) ∷ c.self.inside.given) c.of-at.ensures in
    record {
      holds = c.in-Ok.ensures.whole;
      counted = counted_more _ _ c.self.inside.counts c.added.new.self
          (subst (AreCounted c.self.inside.counts) (sym shown_as) c.self.invariant.counted) c.in-Ok.ensures.routes
          (subst (λ r. HasOneMore r c.self.inside.counts c.added.new.self) (sym (ap (λ e. e.rank) c.of-entry.ensures.entry)) c.added.ensures);
      indexed = index_more c.vacancy-vacancy.new.self c.enter.new.self m c.insert.new.nodes.lodged c.in-Ok.id
          (record { key = c.args.key; rank = c.args.rank; value = c.args.value }) (indexed g (goal.at.invariant_of-self-in-Ok g c).After-vacancy-vacancy) c.enter.ensures.entered
          (ap place_of (ap (leaves_in m) c.in-Ok.ensures.number ∙ is_free g at))
          (subst (HasPlaceMore m c.insert.new.nodes.lodged c.in-Ok.id) c.of-entry.ensures.entry c.in-Ok.ensures.places);
      numbered = subst (λ p. AreGiven c.insert.new.nodes.lodged p c.self.inside.numbers) (sym put) (numbered g at);
    }

pub returns-in-Ok-clause-there : goal.returns-in-Ok-clause-there
returns-in-Ok-clause-there g c = search (absent)

pub returns-in-Ok-clause-absent : goal.returns-in-Ok-clause-absent
returns-in-Ok-clause-absent g c = absent g (goal.at.returns-in-Ok-clause-absent g c).In-Ok

pub returns-in-Ok-clause-ok : goal.returns-in-Ok-clause-ok
returns-in-Ok-clause-ok g c = (gains_entry c.in-Ok.ensures.routes (shown_table c.insert.new.nodes.lodged (Some c.in-Ok.root) c.in-Ok.ensures.whole)).0
    ∙ ap (λ e. with_entry e (shown c.spare-space.new.self.lodged c.self.inside.root)) c.of-entry.ensures.entry
    ∙ ap (with_entry (record { key = c.args.key; rank = c.args.rank; value = c.args.value })) (before g (goal.at.returns-in-Ok-clause-ok g c).In-Ok)
