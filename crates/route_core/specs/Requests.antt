-- What the requests do that writes make.
use Rattle.std.specs.Prelude.{ℕ, Bool, true, false, List, [], bit_or, Option, Some, None, is_none, Result, Ok, Err}
use Rattle.sock_addrs.specs.declared.errno.Errno.{Errno}
use Rattle.sock_addrs.specs.declared.errno.Errno.TheVariants.{ESRCH}
use Rattle.route_msgs.specs.Headers.{header_in}
use Rattle.route_msgs.specs.Patches.{with_flags, with_pid}
use Rattle.route_msgs.specs.declared.flags.TheConstants.{RTF_DONE}
use Rattle.if_addrs.specs.Interfaces.{Interface, interface_of, link_text_of, text_of}
use Rattle.if_addrs.specs.declared.reference.IfaRef.{IfaRef}
use Rattle.radix_tree.specs.Table.{with_entry, without}
use Rattle.radix_tree.specs.declared.entry.Entry.{Entry}
use Rattle.route_entries.specs.declared.route.Route.{Route}
use Rattle.route_ops.specs.Adding.{Adding, add, add_fault}
use Rattle.route_ops.specs.Changing.{change, change_fault, lock}
use Rattle.route_ops.specs.Deleting.{route_to_delete, route_to_show}
use Rattle.route_ops.specs.declared.notice.Notice.{Notice}
use Rattle.route_core.specs.Messages.{route_got}
use Rattle.route_core.specs.declared.messages.Shown.{Shown}
use Rattle.route_core.specs.declared.request.Request.{Request}
use Rattle.route_core.specs.declared.request.Request.TheVariants.{Add, Change, Delete, Get, Lock}

-- a request that was done: the table after it, the messages that it makes before its reply, in order, and the reply
pub record Outcome : Type 0 where
  pub table : List (Entry Route)
  pub notices : List Notice
  pub reply : List ℕ

-- nothing is told but the reply
abbrev pub quiet : List (Entry Route) → List ℕ → Outcome
quiet table reply = record { table = table; notices = []; reply = reply }

-- the reply to a request that was done, but to a GET: the written bytes with the writer's pid, and DONE among the flags
abbrev pub done_reply : ℕ → List ℕ → List ℕ
done_reply pid m = with_flags (bit_or (header_in m).flags RTF_DONE) (with_pid pid m)

-- ADD and CHANGE
abbrev pub adding_outcome : List ℕ → Result Adding Errno → Result Outcome Errno
adding_outcome reply (Err errno) = Err errno
adding_outcome reply (Ok a) = Ok (record { table = a.table; notices = a.messages; reply = reply })

-- DELETE
abbrev pub delete_outcome : List (Entry Route) → List ℕ → Option (Entry Route) → Result Outcome Errno
delete_outcome table reply None = Err ESRCH
delete_outcome table reply (Some r) = Ok (quiet (without r.key r.rank table) reply)

-- LOCK
abbrev pub lock_outcome : List (Entry Route) → List ℕ → Result (Entry Route) Errno → Result Outcome Errno
lock_outcome table reply (Err errno) = Err errno
lock_outcome table reply (Ok r) = Ok (quiet (with_entry r table) reply)

-- what a GET shows of the route's interface where that is asked for, and otherwise the index that was written
abbrev pub interface_shown : List Interface → ℕ → IfaRef → Bool → Shown
interface_shown interfaces written ifa false = record { index = written; ifp = None; ifa = None }
interface_shown interfaces written ifa true =
    let index = interface_of ifa interfaces in
    record { index = index; ifp = link_text_of index interfaces; ifa = text_of ifa interfaces }

-- GET
abbrev pub get_outcome : List Interface → List (Entry Route) → ℕ → List ℕ → Bool → Result (Entry Route) Errno
    → Result Outcome Errno
get_outcome interfaces table pid m shows (Err errno) = Err errno
get_outcome interfaces table pid m shows (Ok r) =
    let asked = header_in m in
    Ok (quiet table (route_got asked pid (interface_shown interfaces asked.index r.value.ifa shows) r))

-- a request makes room for routes before it is carried out: it adds or changes one, and isn't refused
abbrev pub makes_room : List Interface → List (Entry Route) → Request → Bool
makes_room interfaces table (Add a) = is_none (add_fault a interfaces table)
makes_room interfaces table (Change a) = is_none (change_fault a interfaces table)
makes_room interfaces table request = false

-- a request of a process, made by this message
abbrev pub outcome_of : List Interface → List (Entry Route) → ℕ → List ℕ → Request → Result Outcome Errno
outcome_of interfaces table pid m (Add a) = adding_outcome (done_reply pid m) (add a interfaces table)
outcome_of interfaces table pid m (Delete key netmask flags) =
    delete_outcome table (done_reply pid m) (route_to_delete key netmask flags table)
outcome_of interfaces table pid m (Change a) = adding_outcome (done_reply pid m) (change a interfaces table)
outcome_of interfaces table pid m (Lock destination netmask inits locks) =
    lock_outcome table (done_reply pid m) (lock destination netmask inits locks table)
outcome_of interfaces table pid m (Get destination shows) =
    get_outcome interfaces table pid m shows (route_to_show destination table)
