-- Look-ups that clone, and the settling of gateways.
use Rattle.std.specs.Prelude.{ℕ, Bool, true, if◌then◌else◌, is_some, List, [], ◌∷◌, ◌++◌, Option, Some, None, Result, Ok, Err}
use Rattle.sock_addrs.specs.declared.errno.Errno.{Errno}
use Rattle.sock_addrs.specs.declared.errno.Errno.TheVariants.{EEXIST}
use Rattle.sock_addrs.specs.declared.gate.Gate.{Gate}
use Rattle.sock_addrs.specs.declared.gate.Gate.TheVariants as gate
use Rattle.mask_table.specs.Agreeing.{masked}
use Rattle.route_msgs.specs.declared.flags.TheConstants.{RTF_CLONING, RTF_GATEWAY, RTF_XRESOLVE}
use Rattle.radix_tree.specs.Table.{best_of, entry_at, with_entry}
use Rattle.radix_tree.specs.declared.entry.Entry.{Entry}
use Rattle.route_entries.specs.Routes.{has_flag, cloned, clone_rank, with_one_more_use}
use Rattle.route_entries.specs.declared.route.Route.{Route}
use Rattle.route_ops.specs.declared.looking.Found.{Found}
use Rattle.route_ops.specs.declared.looking.Found.TheVariants.{Nothing, Known, NotCloned, Cloned}
use Rattle.route_ops.specs.declared.notice.Notice.{Notice}
use Rattle.route_ops.specs.declared.notice.Notice.TheVariants.{Miss, Resolve}

-- the clone of a route for an address: at the address, masked by the clone's rank
abbrev pub clone_at : ℕ → Route → Entry Route
clone_at address r =
    let rank = clone_rank r.genmask in record { key = masked rank address; rank = rank; value = cloned r }

-- a route that is to be added, unless its pair is there already
abbrev pub unless_there : Entry Route → List (Entry Route) → Result (Entry Route) Errno
unless_there r table = if is_some (entry_at r.key r.rank table) then Err EEXIST else Ok r

-- the clone, unless its pair is there
abbrev pub resolved : ℕ → Route → List (Entry Route) → Result (Entry Route) Errno
resolved address r table = unless_there (clone_at address r) table

-- WHAT A LOOK-UP FINDS, by the first case that holds: no route, for a link-layer address too; a route that doesn't
-- clone; one whose clone's pair is there already; and otherwise its clone

abbrev pub clone_or_parent : Entry Route → Result (Entry Route) Errno → Found
clone_or_parent r (Ok clone) = Cloned clone
clone_or_parent r (Err errno) = NotCloned r

abbrev pub found_by : ℕ → List (Entry Route) → Option (Entry Route) → Found
found_by address table None = Nothing
found_by address table (Some r) =
    if has_flag RTF_CLONING r.value then clone_or_parent r (resolved address r.value table) else Known r

abbrev pub found : Gate → List (Entry Route) → Found
found (gate.Link text) table = Nothing
found (gate.Inet address) table = found_by address table (best_of address table)

-- the route that it answers
abbrev pub answer_of : Found → Option (Entry Route)
answer_of Nothing = None
answer_of (Known r) = Some r
answer_of (NotCloned r) = Some r
answer_of (Cloned r) = Some r

-- the table after it: with the clone, where there is one
abbrev pub with_clone : Found → List (Entry Route) → List (Entry Route)
with_clone (Cloned r) table = with_entry r table
with_clone found table = table

-- its own messages
abbrev pub told_of : Gate → Found → List Notice
told_of about Nothing = Miss about None ∷ []
told_of about (Known r) = []
told_of about (NotCloned r) = Miss about (Some EEXIST) ∷ []
told_of about (Cloned r) = if has_flag RTF_XRESOLVE r.value then Resolve about ∷ [] else []

-- SETTLING

-- a table, and the messages that were made on the way to it
pub record Settled : Type 0 where
  pub table : List (Entry Route)
  pub messages : List Notice

-- a route leads over a gateway, so that there is one to be settled
abbrev pub leads_over : Route → Bool
leads_over r = has_flag RTF_GATEWAY r

-- nothing is to be settled
abbrev pub unsettled : List (Entry Route) → Settled
unsettled table = record { table = table; messages = [] }

-- a route's gateway is settled: where the route leads over one, that is looked up, and a clone's own gateway is not
-- settled
abbrev pub settle : Route → List (Entry Route) → Settled
settle r table =
    let it = found r.gateway table in
    if has_flag RTF_GATEWAY r then record { table = with_clone it table; messages = told_of r.gateway it }
    else unsettled table

-- a clone's gateway is settled in a deep look-up
abbrev pub settle_found : Bool → Found → List (Entry Route) → Settled
settle_found true (Cloned r) table = settle r.value table
settle_found deep it table = unsettled table

-- LOOKING UP

-- a look-up: its answer, the table after it and its messages, those of the settling first
pub record Look : Type 0 where
  pub answer : Option (Entry Route)
  pub table : List (Entry Route)
  pub messages : List Notice

abbrev pub look_of : Bool → Gate → Found → List (Entry Route) → Look
look_of deep about it table =
    let settled = settle_found deep it (with_clone it table) in
    record { answer = answer_of it; table = settled.table; messages = settled.messages ++ told_of about it }

abbrev pub look : Bool → Gate → List (Entry Route) → Look
look deep about table = look_of deep about (found about table) table

-- a route that one more packet took
abbrev pub entry_with_one_more_use : Entry Route → Entry Route
entry_with_one_more_use r = record r { value = with_one_more_use r.value }

-- a packet takes the best route of an address, unless that clones for it
abbrev pub with_best_used : Option (Entry Route) → List (Entry Route) → List (Entry Route)
with_best_used None table = table
with_best_used (Some r) table =
    if has_flag RTF_CLONING r.value then table else with_entry (entry_with_one_more_use r) table
