-- The request to add a route.
use Rattle.std.specs.Prelude.{ℕ, ◌==◌, List, bit_and, bit_or, Option, option_map, ok_or, Result, Ok, if◌then◌else◌}
use Rattle.std.specs.Result.{result_err}
use Rattle.sock_addrs.specs.declared.errno.Errno.{Errno}
use Rattle.sock_addrs.specs.declared.errno.Errno.TheVariants.{ENETUNREACH}
use Rattle.mask_table.specs.Agreeing.{masked}
use Rattle.mask_table.specs.Ranks.{rank_of}
use Rattle.route_msgs.specs.Headers.{no_metrics}
use Rattle.route_msgs.specs.declared.flags.TheConstants.{RTF_GATEWAY, RTF_HOST, RTF_UP}
use Rattle.if_addrs.specs.Interfaces.{Interface}
use Rattle.if_addrs.specs.Searches.{for_route}
use Rattle.if_addrs.specs.declared.reference.IfaRef.{IfaRef}
use Rattle.radix_tree.specs.Table.{best_of, with_entry}
use Rattle.radix_tree.specs.declared.entry.Entry.{Entry}
use Rattle.route_entries.specs.Routes.{with_locks, with_metrics}
use Rattle.route_entries.specs.declared.route.Route.{Route}
use Rattle.route_ops.specs.Looks.{settle, unless_there}
use Rattle.route_ops.specs.Refusing.{◌>>=◌}
use Rattle.route_ops.specs.declared.adding.NewRoute.{NewRoute}
use Rattle.route_ops.specs.declared.notice.Notice.{Notice}

-- the rank that is asked for: a host's where HOST is set, and otherwise that of the mask
abbrev pub asked_rank : ℕ → Option ℕ → ℕ
asked_rank flags netmask = if bit_and flags RTF_HOST == 0 then rank_of netmask else 33

-- the new route: up, with the metrics that inits names, of which those are locked that the locks name
abbrev pub new_value : NewRoute → IfaRef → Route
new_value a ifa = record {
  flags = bit_or a.flags RTF_UP;
  gateway = a.gateway;
  metrics = with_locks a.inits a.metrics.locks (with_metrics a.inits a.metrics no_metrics);
  genmask = a.genmask;
  ifa = ifa;
  use_count = 0;
}

abbrev pub new_entry : NewRoute → IfaRef → Entry Route
new_entry a ifa =
    let rank = asked_rank a.flags a.netmask in
    record { key = masked rank a.destination; rank = rank; value = new_value a ifa }

-- the rooms that a new route may need: its own, and where it leads over a gateway that of a clone
abbrev pub rooms_to_put : Route → ℕ
rooms_to_put r = if bit_and r.flags RTF_GATEWAY == 0 then 1 else 2

abbrev pub rooms_to_add : NewRoute → ℕ
rooms_to_add a = if bit_and (bit_or a.flags RTF_UP) RTF_GATEWAY == 0 then 1 else 2

-- the interface address of an address's best route
abbrev pub best_ifa : ℕ → List (Entry Route) → Option IfaRef
best_ifa address table = option_map (λ r. r.value.ifa) (best_of address table)

-- its interface address
abbrev pub ifa_for : NewRoute → List Interface → List (Entry Route) → Option IfaRef
ifa_for a interfaces table = for_route a.flags a.destination a.gateway (best_ifa a.destination table) interfaces

-- a route, the table that has it, and the messages that were made on the way
pub record Adding : Type 0 where
  pub route : Entry Route
  pub table : List (Entry Route)
  pub messages : List Notice

-- the table with a route, whose gateway is then settled
abbrev pub added : Entry Route → List (Entry Route) → Adding
added r table =
    let settled = settle r.value (with_entry r table) in
    record { route = r; table = settled.table; messages = settled.messages }

-- ADD: refused where no interface address is found for it, and where its pair is there
abbrev pub add : NewRoute → List Interface → List (Entry Route) → Result Adding Errno
add a interfaces table = do
  ifa ← ok_or (ifa_for a interfaces table) ENETUNREACH
  r ← unless_there (new_entry a ifa) table
  Ok (added r table)

-- why it is refused
abbrev pub add_fault : NewRoute → List Interface → List (Entry Route) → Option Errno
add_fault a interfaces table = result_err (add a interfaces table)
