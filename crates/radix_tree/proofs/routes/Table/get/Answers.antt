use Rattle.radix_tree.proofs.{Counted.not_held, Words.arith, Words.sym, Words.ap, Words.◌∙◌, Words.entry_at}
use Rattle.radix_tree.proofs.Kept.{Has-found, found, not_found, value_found, whole_at, entries_at}
use Rattle.radix_tree.proofs.routes.Table.get.Goals as goal

pub returns-then-not-has-clause-entry : goal.returns-then-not-has-clause-entry
returns-then-not-has-clause-entry g c = grind (arith, not_held)

pub find_room-requires-clause-whole : goal.find_room-requires-clause-whole
find_room-requires-clause-whole g c = whole_at _ c.self.invariant.holds c.in-Some.is

pub returns-in_default-find_room-clause-entry : goal.returns-in_default-find_room-clause-entry
returns-in_default-find_room-clause-entry g c =
    let w = whole_at _ c.self.invariant.holds c.in-Some.is in
    sym (ap (entry_at c.args.key c.args.rank) (sym (entries_at _ _ _ c.self.view_is c.in-Some.is))
    ∙ not_found w c.args.key c.args.rank c.in_default-find_room.is (c.find_room.ensures.found w))

pub value-requires-clause-there : goal.value-requires-clause-there
value-requires-clause-there g c =
    let w = whole_at _ c.self.invariant.holds c.in-Some.is in
    Has-found _ (found w c.args.key c.args.rank c.in-Some-find_room.is (c.find_room.ensures.found w))

pub returns-clause-entry : goal.returns-clause-entry
returns-clause-entry g c =
    let w = whole_at _ c.self.invariant.holds c.in-Some.is in
    let f = found w c.args.key c.args.rank c.in-Some-find_room.is (c.find_room.ensures.found w) in
    value_found f c.value.result.now c.value.ensures.value ∙ ap (entry_at c.args.key c.args.rank) (entries_at _ _ _ c.self.view_is c.in-Some.is)
