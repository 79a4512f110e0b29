-- The requests to change and to lock a route.
use Rattle.std.specs.Prelude.{ℕ, ◌==◌, if◌then◌else◌, List, Option, Some, None, unwrap_or, ok_or, Result, Ok, Err}
use Rattle.std.specs.Option.{option_and_then, option_or}
use Rattle.std.specs.Result.{result_err}
use Rattle.sock_addrs.specs.declared.errno.Errno.{Errno}
use Rattle.sock_addrs.specs.declared.errno.Errno.TheVariants.{ESRCH, ETOOMANYREFS}
use Rattle.sock_addrs.specs.declared.gate.Gate.{Gate}
use Rattle.sock_addrs.specs.declared.gate.Gate.TheVariants as gate
use Rattle.mask_table.specs.Ranks.{rank_of}
use Rattle.if_addrs.specs.Interfaces.{Interface, interface_of}
use Rattle.if_addrs.specs.Searches.{for_route, of_interface, with_addr, with_net}
use Rattle.if_addrs.specs.declared.reference.IfaRef.{IfaRef}
use Rattle.radix_tree.specs.Table.{best_of, entry_at, with_entry}
use Rattle.radix_tree.specs.declared.entry.Entry.{Entry}
use Rattle.route_entries.specs.Routes.{with_locks, with_metrics}
use Rattle.route_entries.specs.declared.route.Route.{Route}
use Rattle.route_ops.specs.Adding.{Adding, best_ifa}
use Rattle.route_ops.specs.Looks.{Settled, settle, unsettled}
use Rattle.route_ops.specs.Refusing.{◌>>=◌}
use Rattle.route_ops.specs.declared.changing.Change.{Change}

-- CHANGE and LOCK: the route that is meant, of the destination itself and with exactly this mask
abbrev pub target : ℕ → Option ℕ → List (Entry Route) → Result (Entry Route) Errno
target destination netmask table = do
  best ← ok_or (best_of destination table) ESRCH
  if best.key == destination then ok_or (entry_at destination (rank_of netmask) table) ETOOMANYREFS else Err ESRCH

-- the interface address that a change asks for: of the interface that IFP names, or by IFA, or by the gateway
abbrev pub by_gateway : Change → Entry Route → List Interface → List (Entry Route) → Option IfaRef
by_gateway a r interfaces table =
    option_and_then (λ g. for_route r.value.flags r.key g (best_ifa r.key table) interfaces) a.gateway

abbrev pub by_address : Change → Entry Route → List Interface → List (Entry Route) → Option IfaRef
by_address a r interfaces table =
    option_or (option_and_then (λ i. with_addr i interfaces) a.ifa) (by_gateway a r interfaces table)

-- what the address on that interface is searched by: IFA, else the gateway, else the key
abbrev pub sought : Change → Entry Route → Gate
sought a r = unwrap_or a.ifa (unwrap_or a.gateway (gate.Inet r.key))

abbrev pub by_interface : Change → Entry Route → List Interface → List (Entry Route) → Option IfaRef → Option IfaRef
by_interface a r interfaces table None = by_address a r interfaces table
by_interface a r interfaces table (Some i) = of_interface (sought a r) (interface_of i interfaces) interfaces

abbrev pub ifa_asked : Change → Entry Route → List Interface → List (Entry Route) → Option IfaRef
ifa_asked a r interfaces table = by_interface a r interfaces table (option_and_then (λ i. with_net i interfaces) a.ifp)

-- the route with what a change asks for, where that is written or found, and otherwise as it was
abbrev pub changed : Change → Option IfaRef → Route → Route
changed a ifa r = record r {
  gateway = unwrap_or a.gateway r.gateway;
  ifa = unwrap_or ifa r.ifa;
  metrics = with_locks a.inits a.metrics.locks (with_metrics a.inits a.metrics r.metrics);
  genmask = option_or a.genmask r.genmask;
}

-- where a gateway is written, it is settled
abbrev pub settle_written : Option Gate → Route → List (Entry Route) → Settled
settle_written None r table = unsettled table
settle_written (Some g) r table = settle r table

abbrev pub rewritten : Option Gate → Entry Route → List (Entry Route) → Adding
rewritten g r table =
    let settled = settle_written g r.value (with_entry r table) in
    record { route = r; table = settled.table; messages = settled.messages }

-- the rooms that it may need: where a gateway is written that of a clone
abbrev pub rooms_to_change : Option Gate → ℕ
rooms_to_change None = 0
rooms_to_change (Some g) = 1

-- CHANGE
abbrev pub changed_entry : Change → List Interface → List (Entry Route) → Entry Route → Entry Route
changed_entry a interfaces table r = record r { value = changed a (ifa_asked a r interfaces table) r.value }

abbrev pub change : Change → List Interface → List (Entry Route) → Result Adding Errno
change a interfaces table = do
  r ← target a.destination a.netmask table
  Ok (rewritten a.gateway (changed_entry a interfaces table r) table)

-- LOCK
abbrev pub locked : ℕ → ℕ → Entry Route → Entry Route
locked inits locks r = record r { value = record r.value { metrics = with_locks inits locks r.value.metrics } }

abbrev pub lock : ℕ → Option ℕ → ℕ → ℕ → List (Entry Route) → Result (Entry Route) Errno
lock destination netmask inits locks table = do
  r ← target destination netmask table
  Ok (locked inits locks r)

-- why it is refused
abbrev pub change_fault : Change → List Interface → List (Entry Route) → Option Errno
change_fault a interfaces table = result_err (change a interfaces table)
