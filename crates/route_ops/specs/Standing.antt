-- What calls keep of a table: its routes, and that their interface addresses are of the interfaces.
use Rattle.std.specs.Prelude.{ℕ, List, count_by, is_none}
use Rattle.std.specs.List.{AllByRecursion}
use Rattle.if_addrs.specs.Interfaces.{Interface, IsOf}
use Rattle.if_addrs.specs.declared.reference.IfaRef.{IfaRef}
use Rattle.radix_tree.specs.Table.{entry_at}
use Rattle.radix_tree.specs.TableLaws.{StandsIn}
use Rattle.radix_tree.specs.declared.entry.Entry.{Entry}
use Rattle.route_entries.specs.declared.route.Route.{Route}

-- each route of the table is also in the other
abbrev pub KeepsRoutes : List (Entry Route) → List (Entry Route) → Type 0
KeepsRoutes old new = (r : Entry Route) → StandsIn old r → StandsIn new r

-- the interface addresses of the routes are of these interfaces
abbrev pub AreOf : List Interface → List (Entry Route) → Type 0
AreOf interfaces table = AllByRecursion (λ r. IsOf r.value.ifa interfaces) table

-- where those of the old table are of some interfaces, those of the new one are too
abbrev pub KeepsAreOf : List (Entry Route) → List (Entry Route) → Type 0
KeepsAreOf old new = (interfaces : List Interface) → AreOf interfaces old → AreOf interfaces new

-- and so they are with a route of this interface address, where that is of these interfaces too
abbrev pub KeepsAreOfWith : IfaRef → List (Entry Route) → List (Entry Route) → Type 0
KeepsAreOfWith ifa old new =
    (interfaces : List Interface) → IsOf ifa interfaces → AreOf interfaces old → AreOf interfaces new

-- an interface address is of the interfaces that those of the table are of
abbrev pub IsIfaOf : List (Entry Route) → IfaRef → Type 0
IsIfaOf table ifa = (interfaces : List Interface) → AreOf interfaces table → IsOf ifa interfaces

-- and that of a route is so
abbrev pub HasIfaOf : List (Entry Route) → Entry Route → Type 0
HasIfaOf table r = IsIfaOf table r.value.ifa

-- how many routes the new table has at pairs at which the old one has none
abbrev pub brought : List (Entry Route) → List (Entry Route) → ℕ
brought old new = count_by (λ r. is_none (entry_at r.key r.rank old)) new
