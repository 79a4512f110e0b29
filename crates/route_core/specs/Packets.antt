-- What becomes of a packet by its route.
use Rattle.std.specs.Prelude.{ℕ, Bool, false, if◌then◌else◌, List}
use Rattle.std.specs.Option.{option_map_or}
use Rattle.sock_addrs.specs.declared.errno.Errno.{Errno}
use Rattle.sock_addrs.specs.declared.errno.Errno.TheVariants.{EHOSTUNREACH, ENETUNREACH}
use Rattle.route_msgs.specs.declared.flags.TheConstants.{RTF_BLACKHOLE, RTF_CLONING, RTF_HOST, RTF_REJECT}
use Rattle.if_addrs.specs.Interfaces.{Interface, interface_of}
use Rattle.radix_tree.specs.Table.{best_of}
use Rattle.radix_tree.specs.declared.entry.Entry.{Entry}
use Rattle.route_entries.specs.Routes.{has_flag}
use Rattle.route_entries.specs.declared.route.Route.{Route}
use Rattle.route_core.specs.declared.answer.Answer.{Answer}
use Rattle.route_core.specs.declared.answer.Answer.TheVariants.{Dropped, Refused, Routed}
use Rattle.route_core.specs.declared.answer.Choice.{Choice}

-- its route clones for it
abbrev pub clones_for : ℕ → List (Entry Route) → Bool
clones_for destination table = option_map_or (λ r. has_flag RTF_CLONING r.value) (best_of destination table) false

-- what is told of the route that it takes
abbrev pub choice_of : List Interface → Entry Route → Choice
choice_of interfaces r = record {
  key = r.key;
  rank = r.rank;
  gateway = r.value.gateway;
  index = interface_of r.value.ifa interfaces;
  flags = r.value.flags;
}

-- why a route that rejects refuses it: as a host's or as a network's
abbrev pub rejection_of : Route → Errno
rejection_of r = if has_flag RTF_HOST r then EHOSTUNREACH else ENETUNREACH

-- a blackhole drops it, without an error; a route that rejects refuses it; and any other takes it
abbrev pub fate_of : List Interface → Entry Route → Answer
fate_of interfaces r =
    if has_flag RTF_BLACKHOLE r.value then Dropped (choice_of interfaces r)
    else if has_flag RTF_REJECT r.value then Refused (rejection_of r.value)
    else Routed (choice_of interfaces r)
