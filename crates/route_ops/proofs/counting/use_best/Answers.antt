-- The route stands in the table, and is put back there with its interface address.
use Rattle.std.proofs.Common.{◌≡◌, refl, sym, ap, subst, ◌∙◌}
use Rattle.std.specs.Prelude.{if◌then◌else◌}
use Rattle.if_addrs.specs.Interfaces.{IsOf}
use Rattle.radix_tree.specs.Table.{with_entry}
use Rattle.radix_tree.specs.TableLaws.{StandsIn}
use Rattle.radix_tree.specs.declared.entry.Entry.{Entry}
use Rattle.route_entries.specs.declared.route.Route.{Route}
use Rattle.route_ops.specs.Looks.{entry_with_one_more_use}
use Rattle.route_ops.specs.Standing.{AreOf, HasIfaOf}
use Rattle.route_ops.proofs.Keeping.{added_of, ifa_of, put_again}
use Rattle.route_ops.proofs.counting.use_best.Goals.{In-Some}
use Rattle.route_ops.proofs.counting.use_best.Goals as goal

-- what was found
abbrev entry : In-Some → Entry Route
entry c = record { key = c.best_mut.new.pair.0; rank = c.best_mut.new.pair.1; value = c.in-Some.route.now }

same : (c : In-Some) → c.begin-visits.new.self.entries ≡ c.args.table.now.entries
same c = ap (λ t. t.entries) c.begin-visits.ensures.turn

stands : (c : In-Some) → StandsIn c.args.table.now.entries (entry c)
stands c = subst (λ es. StandsIn es (entry c)) (same c) c.in-Some.ensures.stands

has_ifa : (c : In-Some) → HasIfaOf c.args.table.now.entries (entry c)
has_ifa c = λ interfaces are. ifa_of interfaces c.args.table.now.entries (entry c) are (stands c)

pub returns-then-has-clause-entries : goal.returns-then-has-clause-entries
returns-then-has-clause-entries c =
    let at = (goal.at.returns-then-has-clause-entries c).In-Some in
    let table = c.args.table.now.entries in
    rw c.route.ensures
    (ap (with_entry (entry at)) (same at) ∙ put_again table (entry at) c.is_table.ensures (stands at)
    ∙ sym (ap (λ b. if b then table else with_entry (entry_with_one_more_use (entry at)) table) (sym (rw c.route.ensures at c.has.ensures) ∙ c.if-has.true)))

pub returns-then-has-clause-ifa : goal.returns-then-has-clause-ifa
returns-then-has-clause-ifa c = rw c.route.ensures (has_ifa (goal.at.returns-then-has-clause-ifa c).In-Some)

pub returns-then-has-clause-of : goal.returns-then-has-clause-of
returns-then-has-clause-of c = λ interfaces are.
    let at = (goal.at.returns-then-has-clause-of c).In-Some in
    added_of interfaces (entry at) c.begin-visits.new.self.entries _ refl (has_ifa at interfaces are)
    (subst (AreOf interfaces) (sym (same at)) are)

pub returns-clause-ifa : goal.returns-clause-ifa
returns-clause-ifa c = rw c.route.ensures (has_ifa (goal.at.returns-clause-ifa c).In-Some)

pub returns-clause-of : goal.returns-clause-of
returns-clause-of c = λ interfaces are.
    let at = (goal.at.returns-clause-of c).In-Some in
    let used : Entry Route = record (entry at) { value = c.count_use.new.self } in
    let ifa : IsOf used.value.ifa interfaces = subst (λ (r : Route). IsOf r.ifa interfaces) (sym c.count_use.ensures) (has_ifa at interfaces are) in
    added_of interfaces used c.begin-visits.new.self.entries _ refl ifa (subst (AreOf interfaces) (sym (same at)) are)
