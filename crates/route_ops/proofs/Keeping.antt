-- Adding a route whose pair isn't there keeps the others, and a route whose interface address is of the interfaces
-- keeps them so.
use Rattle.std.proofs.Common.{◌≡◌, List, [], ◌∷◌, Option, Some, None, refl, sym, ap, ◌∙◌}
use Rattle.std.specs.Prelude.{IfSome, unwrap_or}
use Rattle.radix_tree.specs.Table.{Contents, IsTable, entry_at, with_entry, without}
use Rattle.radix_tree.specs.TableLaws.{StandsIn}
use Rattle.radix_tree.specs.Lending.{with_value}
use Rattle.radix_tree.specs.declared.entry.Entry.{Entry}
use Rattle.radix_tree.proofs.LawLemmas.{with_twice_is_last, without_then_with}
use Rattle.radix_tree.proofs.MemberLemmas.{all_entry_at, all_with, with_keeps, with_stands}
use Rattle.if_addrs.specs.Interfaces.{Interface, IsOf}
use Rattle.if_addrs.specs.Keeping.{KeepsIfas}
use Rattle.if_addrs.specs.declared.reference.IfaRef.{IfaRef}
use Rattle.route_entries.specs.declared.route.Route.{Route}
use Rattle.route_ops.specs.Standing.{AreOf, HasIfaOf, KeepsAreOf, KeepsRoutes}

pub added_keeps : (c : Entry Route) (old new : List (Entry Route)) → new ≡ with_entry c old → entry_at c.key c.rank old ≡ None → KeepsRoutes old new
added_keeps c old new is none = rw is (λ r h. with_keeps old c r none h)

pub added_stands : (c : Entry Route) (old new : List (Entry Route)) → new ≡ with_entry c old → StandsIn new c
added_stands c old new is = rw is (with_stands old c)

pub added_of : (interfaces : List Interface) (c : Entry Route) (old new : List (Entry Route)) → new ≡ with_entry c old → IsOf c.value.ifa interfaces → AreOf interfaces old → AreOf interfaces new
added_of interfaces c old new is of are = rw is (all_with (λ x. IsOf x.value.ifa interfaces) c old are of)

-- routes stay of interfaces that keep their addresses
pub are_kept : (old new : List Interface) (table : List (Entry Route)) → KeepsIfas old new → AreOf old table → AreOf new table
are_kept old new [] keeps are = tt
are_kept old new (r ∷ rest) keeps are = (keeps r.value.ifa are.0, are_kept old new rest keeps are.1)

-- a route that stands in a table has an interface address of those that its routes have
pub ifa_of : (interfaces : List Interface) (table : List (Entry Route)) (r : Entry Route) → AreOf interfaces table → StandsIn table r → IsOf r.value.ifa interfaces
ifa_of interfaces table r are stands = all_entry_at (λ x. IsOf x.value.ifa interfaces) r.key r.rank table r are stands

pub standing_of : (old mid new : List (Entry Route)) (o : Option (Entry Route)) → KeepsAreOf old new → KeepsRoutes mid new → IfSome o (λ r. StandsIn mid r) → IfSome o (λ r. HasIfaOf old r)
standing_of old mid new None of keeps stands = tt
standing_of old mid new (Some r) of keeps stands = λ interfaces are. ifa_of interfaces new r (of interfaces are) (keeps r stands)

pub unwrap_of : (interfaces : List Interface) (found : Option IfaRef) (old : IfaRef) → IfSome found (λ i. IsOf i interfaces) → IsOf old interfaces → IsOf (unwrap_or found old) interfaces
unwrap_of interfaces None old h is = is
unwrap_of interfaces (Some i) old h is = h

-- a route that is written anew with the interface address that it had
pub rewritten_of : (interfaces : List Interface) (r : Entry Route) (v : Route) (old new : Contents Route) → new ≡ with_value r.key r.rank old v → v.ifa ≡ r.value.ifa → StandsIn old.entries r → AreOf interfaces old.entries → AreOf interfaces new.entries
rewritten_of interfaces r v old new is same stands are =
    rw is (added_of interfaces (record { key = r.key; rank = r.rank; value = v }) old.entries _ refl (rw same (ifa_of interfaces old.entries r are stands)) are)

-- a route that is put in where it stands leaves the table
pub put_again : (table : List (Entry Route)) (r : Entry Route) → IsTable table → StandsIn table r → with_entry r table ≡ table
put_again table r is stands =
    let back = without_then_with table r is stands in
    ap (with_entry r) (sym back) ∙ with_twice_is_last (without r.key r.rank table) r r (refl, refl) ∙ back
