-- Which route it is that is kept small, or in a block.
use Rattle.sock_addrs.specs.declared.gate.Gate.TheVariants as gate
use Rattle.route_msgs.specs.Headers.{no_metrics}
use Rattle.route_entries.specs.declared.route.Route.{Route}
use Rattle.route_entries.specs.declared.packed.SmallRoute.{SmallRoute}
use Rattle.route_entries.specs.declared.packed.Form.{Form}
use Rattle.route_entries.specs.declared.packed.Form.TheVariants.{Small, Whole}

-- the route that is kept small
abbrev pub small_as : SmallRoute → Route
small_as s = record {
  flags = s.flags;
  gateway = gate.Inet s.gateway;
  metrics = record no_metrics { locks = s.locks };
  genmask = s.genmask;
  ifa = s.ifa;
  use_count = s.use_count;
}

-- the route that is kept
abbrev pub kept_as : Form → Route
kept_as (Small s) = small_as s
kept_as (Whole b) = b.value
