-- What is told of a route of the table.
use Rattle.std.specs.Prelude.{ℕ, List, Option, map, option_map}
use Rattle.if_addrs.specs.Interfaces.{Interface}
use Rattle.radix_tree.specs.Table.{entry_at}
use Rattle.radix_tree.specs.declared.entry.Entry.{Entry}
use Rattle.route_entries.specs.declared.route.Route.{Route}
use Rattle.route_core.specs.Packets.{choice_of}
use Rattle.route_core.specs.World.{World}
use Rattle.route_core.specs.declared.told.RouteTold.{RouteTold}

-- what a packet that takes it is told, and what else the table keeps of it but its interface address
abbrev pub route_told : List Interface → Entry Route → RouteTold
route_told interfaces r = record {
  choice = choice_of interfaces r;
  genmask = r.value.genmask;
  use_count = r.value.use_count;
  metrics = r.value.metrics;
}

-- the route with this key and rank
abbrev pub stored : ℕ → ℕ → World → Option RouteTold
stored key rank w = option_map (route_told w.interfaces) (entry_at key rank w.table)

-- all routes, in table order
abbrev pub all_told : World → List RouteTold
all_told w = map (route_told w.interfaces) w.table
