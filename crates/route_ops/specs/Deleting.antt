-- The requests to delete and to show a route.
use Rattle.std.specs.Prelude.{ℕ, ◌==◌, if◌then◌else◌, bit_and, List, Option, Some, None, ok_or, Result}
use Rattle.sock_addrs.specs.declared.errno.Errno.{Errno}
use Rattle.sock_addrs.specs.declared.errno.Errno.TheVariants.{ESRCH}
use Rattle.route_msgs.specs.declared.flags.TheConstants.{RTF_HOST}
use Rattle.radix_tree.specs.Table.{best_of, entry_at, first_of}
use Rattle.radix_tree.specs.declared.entry.Entry.{Entry}
use Rattle.route_entries.specs.declared.route.Route.{Route}

-- DELETE: with a mask and without HOST the route of that pair, and otherwise the first of the key
abbrev pub route_to_delete : ℕ → Option ℕ → ℕ → List (Entry Route) → Option (Entry Route)
route_to_delete key None flags table = first_of key table
route_to_delete key (Some netmask) flags table =
    if bit_and flags RTF_HOST == 0 then entry_at key netmask table else first_of key table

-- GET: the best route of the destination
abbrev pub route_to_show : ℕ → List (Entry Route) → Result (Entry Route) Errno
route_to_show destination table = ok_or (best_of destination table) ESRCH
