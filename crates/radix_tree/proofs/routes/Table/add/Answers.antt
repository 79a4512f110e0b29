-- A pair that the index has a room for is there.
use Rattle.radix_tree.proofs.Indexed.{found_named, named_there, rooms_known}
use Rattle.radix_tree.proofs.Words.{◌∙◌, IsSome, arith, ap, entry_at, pair, refl, subst, sym}
use Rattle.radix_tree.proofs.routes.Table.add.Goals as goal

pub find-requires-clause-known : goal.find-requires-clause-known
find-requires-clause-known g c = rooms_known c.self.invariant.indexed

pub returns-then-is_some-clause-there : goal.returns-then-is_some-clause-there
returns-then-is_some-clause-there g c =
    let named = found_named c.self.inside.index (pair c.args.key c.args.rank) c.find.result (sym c.is_some.ensures ∙ c.if-is_some.true) c.find.ensures.found in
    let there = named_there c.self.inside.index c.self.inside.nodes.lodged c.self.inside.root c.args.key c.args.rank (grind arith) c.self.invariant.holds
    c.self.invariant.indexed named.0 named.1 _ refl in
    (λ _. subst (λ es. IsSome (entry_at c.args.key c.args.rank es)) (ap (λ t. t.entries) (c.self.view_is ∙ c.begin-visits.ensures.turn)) there, λ _. refl)
