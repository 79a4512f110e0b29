-- Tables of routes that lead out of some interfaces, and that each call leaves such a table.
use Rattle.std.specs.Prelude.{◌≡◌, ℕ, ◌<◌, ◌≤◌, ◌^◌, Bool, List, Option, IfSome, Ok}
use Rattle.std.specs.List.{AllByRecursion}
use Rattle.sock_addrs.specs.declared.gate.Gate.{Gate}
use Rattle.sock_addrs.specs.declared.gate.Gate.TheVariants as gate
use Rattle.if_addrs.specs.Interfaces.{Interface, IsOf}
use Rattle.if_addrs.specs.Keeping.{KeepsIfas}
use Rattle.if_addrs.specs.Numbered.{NumberedOnce}
use Rattle.if_addrs.specs.declared.reference.Facts.{Facts}
use Rattle.if_addrs.specs.declared.reference.IfaRef.{IfaRef}
use Rattle.radix_tree.specs.Table.{IsRoute, IsTable, with_entry, without}
use Rattle.radix_tree.specs.declared.entry.Entry.{Entry}
use Rattle.route_entries.specs.declared.route.Route.{Route}
use Rattle.route_ops.specs.Adding.{Adding, add}
use Rattle.route_ops.specs.Addressing.{address_entry}
use Rattle.route_ops.specs.Changing.{change, lock}
use Rattle.route_ops.specs.Looks.{look}
use Rattle.route_ops.specs.Losses.{losing}
use Rattle.route_ops.specs.Redirecting.{redirect}
use Rattle.route_ops.specs.declared.adding.NewRoute.{NewRoute}
use Rattle.route_ops.specs.declared.changing.Change.{Change}
use Rattle.route_ops.specs.declared.redirecting.NewGateway.{NewGateway}

-- an IPv4 address has 32 bits
abbrev pub IsGate : Gate → Type 0
IsGate (gate.Inet address) = address < 2 ^ 32
IsGate (gate.Link text) = Unit {0}

-- and so many has a mask at most
abbrev pub IsMaskOrNone : Option ℕ → Type 0
IsMaskOrNone mask = IfSome mask (λ bits. bits ≤ 32)

-- a route out of one of these interfaces: its pair is one, its gateway an address, the mask of its clones a mask, and
-- its interface address is one of the interfaces
pub record IsRouteOf (interfaces : List Interface) (r : Entry Route) : Type 0 where
  pub pair : IsRoute r
  pub gateway : IsGate r.value.gateway
  pub genmask : IsMaskOrNone r.value.genmask
  pub ifa : IsOf r.value.ifa interfaces

-- a table of such routes
pub record IsTableOf (interfaces : List Interface) (table : List (Entry Route)) : Type 0 where
  pub order : IsTable table
  pub routes : AllByRecursion (IsRouteOf interfaces) table

-- it stays one with a route that is put in, and without one
abbrev pub WithStays : Type 0
WithStays = (interfaces : List Interface) (table : List (Entry Route)) (r : Entry Route) → IsTableOf interfaces table
    → IsRouteOf interfaces r → IsTableOf interfaces (with_entry r table)

abbrev pub WithoutStays : Type 0
WithoutStays = (interfaces : List Interface) (table : List (Entry Route)) (key rank : ℕ) → IsTableOf interfaces table
    → IsTableOf interfaces (without key rank table)

-- it is one of whatever interfaces keep their addresses
abbrev pub KeptStays : Type 0
KeptStays = (old new : List Interface) (table : List (Entry Route)) → KeepsIfas old new → IsTableOf old table
    → IsTableOf new table

-- it stays one in a look-up, and what that answers is such a route
abbrev pub LookStays : Type 0
LookStays = (deep : Bool) (about : Gate) (interfaces : List Interface) (table : List (Entry Route))
    → IsTableOf interfaces table → IsGate about
    → let it = look deep about table in
    IsTableOf interfaces it.table × IfSome it.answer (IsRouteOf interfaces)

-- what is asked for is in the ranges of its types
pub record IsNewRoute (a : NewRoute) : Type 0 where
  pub destination : a.destination < 2 ^ 32
  pub netmask : IsMaskOrNone a.netmask
  pub gateway : IsGate a.gateway
  pub genmask : IsMaskOrNone a.genmask

pub record IsChange (a : Change) : Type 0 where
  pub gateway : IfSome a.gateway IsGate
  pub genmask : IsMaskOrNone a.genmask

-- it stays one with whatever a request leaves
abbrev pub AddingStays : Type 0
AddingStays = (a : NewRoute) (interfaces : List Interface) (table : List (Entry Route)) (it : Adding)
    → NumberedOnce interfaces → IsTableOf interfaces table → IsNewRoute a → add a interfaces table ≡ Ok it
    → IsTableOf interfaces it.table

abbrev pub ChangingStays : Type 0
ChangingStays = (a : Change) (interfaces : List Interface) (table : List (Entry Route)) (it : Adding)
    → NumberedOnce interfaces → IsTableOf interfaces table → IsChange a → change a interfaces table ≡ Ok it
    → IsTableOf interfaces it.table

abbrev pub LockingStays : Type 0
LockingStays = (destination : ℕ) (netmask : Option ℕ) (inits locks : ℕ) (interfaces : List Interface)
    (table : List (Entry Route)) (r : Entry Route)
    → IsTableOf interfaces table → lock destination netmask inits locks table ≡ Ok r
    → IsTableOf interfaces (with_entry r table)

-- and with whatever a redirect leaves
abbrev pub RedirectStays : Type 0
RedirectStays = (a : NewGateway) (interfaces : List Interface) (table : List (Entry Route)) → NumberedOnce interfaces
    → IsTableOf interfaces table → a.destination < 2 ^ 32 → a.gateway < 2 ^ 32
    → IsTableOf interfaces (redirect a interfaces table).table

-- and with whatever a report leaves that a route seems dead
abbrev pub LosingStays : Type 0
LosingStays = (address : ℕ) (interfaces : List Interface) (table : List (Entry Route)) → IsTableOf interfaces table
    → IsTableOf interfaces (losing address table).table

-- the route of an address is one of the interfaces that the address is of
abbrev pub AddressRouteIsOf : Type 0
AddressRouteIsOf = (i : IfaRef) (address : ℕ) (facts : Facts) (interfaces : List Interface) → IsOf i interfaces
    → address < 2 ^ 32 → facts.prefix ≤ 32 → facts.far < 2 ^ 32
    → IsRouteOf interfaces (address_entry i address facts)
