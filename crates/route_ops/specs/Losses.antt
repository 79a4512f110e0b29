-- A route that seems dead to those who send by it.
use Rattle.std.specs.Prelude.{ℕ, if◌then◌else◌, List, [], ◌∷◌, Option, Some, None}
use Rattle.sock_addrs.specs.declared.errno.Errno.TheVariants.{EHOSTUNREACH}
use Rattle.route_msgs.specs.declared.flags.TheConstants.{RTF_DYNAMIC}
use Rattle.radix_tree.specs.Table.{best_of, without}
use Rattle.radix_tree.specs.declared.entry.Entry.{Entry}
use Rattle.route_entries.specs.Routes.{has_flag}
use Rattle.route_entries.specs.declared.route.Route.{Route}
use Rattle.route_ops.specs.Upshot.{Upshot}
use Rattle.route_ops.specs.declared.notice.Notice.{Notice}
use Rattle.route_ops.specs.declared.notice.Notice.TheVariants as notice

-- that the route seems dead by which this address is reached, with the route's flags as they are
abbrev pub losing_told : ℕ → Entry Route → Notice
losing_told address r = notice.Losing address r.value.gateway r.rank r.value.flags

-- a route that a redirect made goes, by its key and rank; every other stays
abbrev pub without_dynamic : Entry Route → List (Entry Route) → List (Entry Route)
without_dynamic r table = if has_flag RTF_DYNAMIC r.value then without r.key r.rank table else table

-- the best route of the address is told, and goes where a redirect made it; without one nothing is told
abbrev pub losing_by : ℕ → List (Entry Route) → Option (Entry Route) → Upshot
losing_by address table None = record { table = table; messages = []; errno = Some EHOSTUNREACH }
losing_by address table (Some r) =
    record { table = without_dynamic r table; messages = losing_told address r ∷ []; errno = None }

abbrev pub losing : ℕ → List (Entry Route) → Upshot
losing address table = losing_by address table (best_of address table)
