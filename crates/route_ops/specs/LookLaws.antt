-- A look-up by cases, and that its answer stands in its table.
use Rattle.std.specs.Prelude.{◌≡◌, ℕ, Bool, true, false, List, [], ◌∷◌, ◌++◌, Some, None, IfSome, is_some, if◌then◌else◌}
use Rattle.sock_addrs.specs.declared.errno.Errno.TheVariants.{EEXIST}
use Rattle.sock_addrs.specs.declared.gate.Gate.{Gate}
use Rattle.sock_addrs.specs.declared.gate.Gate.TheVariants as gate
use Rattle.route_msgs.specs.declared.flags.TheConstants.{RTF_CLONING, RTF_XRESOLVE}
use Rattle.radix_tree.specs.Table.{best_of, entry_at, with_entry}
use Rattle.radix_tree.specs.declared.entry.Entry.{Entry}
use Rattle.route_entries.specs.Routes.{has_flag}
use Rattle.route_entries.specs.declared.route.Route.{Route}
use Rattle.route_ops.specs.Looks.{clone_at, look, settle, unsettled}
use Rattle.route_ops.specs.declared.notice.Notice.TheVariants.{Miss, Resolve}

abbrev pub LinkHasNoRoute : Type 0
LinkHasNoRoute = (deep : Bool) (link : List ℕ) (table : List (Entry Route))
    → look deep (gate.Link link) table
    ≡ record { answer = None; table = table; messages = Miss (gate.Link link) None ∷ [] }

abbrev pub NoneAgrees : Type 0
NoneAgrees = (deep : Bool) (address : ℕ) (table : List (Entry Route)) → best_of address table ≡ None
    → look deep (gate.Inet address) table
    ≡ record { answer = None; table = table; messages = Miss (gate.Inet address) None ∷ [] }

abbrev pub RouteIsKnown : Type 0
RouteIsKnown = (deep : Bool) (address : ℕ) (table : List (Entry Route)) (r : Entry Route)
    → best_of address table ≡ Some r
    → has_flag RTF_CLONING r.value ≡ false
    → look deep (gate.Inet address) table
    ≡ record { answer = Some r; table = table; messages = [] }

abbrev pub CloneIsThere : Type 0
CloneIsThere = (deep : Bool) (address : ℕ) (table : List (Entry Route)) (r : Entry Route)
    → best_of address table ≡ Some r
    → has_flag RTF_CLONING r.value ≡ true
    → let clone = clone_at address r.value in is_some (entry_at clone.key clone.rank table) ≡ true
    → look deep (gate.Inet address) table
    ≡ record { answer = Some r; table = table; messages = Miss (gate.Inet address) (Some EEXIST) ∷ [] }

abbrev pub CloneIsAdded : Type 0
CloneIsAdded = (deep : Bool) (address : ℕ) (table : List (Entry Route)) (r : Entry Route)
    → best_of address table ≡ Some r
    → has_flag RTF_CLONING r.value ≡ true
    → let clone = clone_at address r.value in is_some (entry_at clone.key clone.rank table) ≡ false
    → let settled = if deep then settle clone.value (with_entry clone table) else unsettled (with_entry clone table) in
    let told = if has_flag RTF_XRESOLVE clone.value then Resolve (gate.Inet address) ∷ [] else [] in
    look deep (gate.Inet address) table
    ≡ record { answer = Some clone; table = settled.table; messages = settled.messages ++ told }

-- whatever a look-up answers stands in its table then, by its pair
abbrev pub AnswerIsThere : Type 0
AnswerIsThere = (deep : Bool) (about : Gate) (table : List (Entry Route))
    → let it = look deep about table in
    IfSome it.answer (λ r. is_some (entry_at r.key r.rank it.table) ≡ true)
