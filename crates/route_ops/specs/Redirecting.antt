-- Redirects.
use Rattle.std.specs.Prelude.{ℕ, ◌==◌, ◌&&◌, Bool, false, not, if◌then◌else◌, is_some, List, [], ◌∷◌, ◌++◌, bit_or, Option, Some, None, ok_or, Result, Ok, Err}
use Rattle.sock_addrs.specs.declared.errno.Errno.{Errno}
use Rattle.sock_addrs.specs.declared.errno.Errno.TheVariants.{EHOSTUNREACH, EINVAL, ENETUNREACH}
use Rattle.sock_addrs.specs.declared.gate.Gate.{Gate}
use Rattle.sock_addrs.specs.declared.gate.Gate.TheVariants as gate
use Rattle.route_msgs.specs.Headers.{no_metrics}
use Rattle.route_msgs.specs.declared.flags.TheConstants.{RTF_DONE, RTF_DYNAMIC, RTF_GATEWAY, RTF_HOST, RTF_MODIFIED}
use Rattle.if_addrs.specs.Interfaces.{Interface}
use Rattle.if_addrs.specs.Searches.{with_addr, with_net}
use Rattle.if_addrs.specs.declared.reference.IfaRef.{IfaRef}
use Rattle.if_addrs.specs.declared.reference.IfaRef.TheVariants as ifa
use Rattle.radix_tree.specs.Table.{best_of}
use Rattle.radix_tree.specs.declared.entry.Entry.{Entry}
use Rattle.route_entries.specs.Routes.{has_flag}
use Rattle.route_entries.specs.declared.route.Route.{Route}
use Rattle.route_ops.specs.Adding.{Adding, add, added}
use Rattle.route_ops.specs.Refusing.{◌>>=◌}
use Rattle.route_ops.specs.Upshot.{Upshot}
use Rattle.route_ops.specs.declared.adding.NewRoute.{NewRoute}
use Rattle.route_ops.specs.declared.notice.Notice.{Notice}
use Rattle.route_ops.specs.declared.notice.Notice.TheVariants as notice
use Rattle.route_ops.specs.declared.redirecting.NewGateway.{NewGateway}
use Rattle.route_ops.specs.declared.redirecting.Verdict.{Verdict}
use Rattle.route_ops.specs.declared.redirecting.Verdict.TheVariants.{Create, Modify}

abbrev pub same_gate : Gate → ℕ → Bool
same_gate (gate.Inet a) address = a == address
same_gate (gate.Link text) address = false

abbrev pub same_ifa : IfaRef → IfaRef → Bool
same_ifa (ifa.Inet a) (ifa.Inet b) = a == b
same_ifa (ifa.Link a) (ifa.Link b) = a == b
same_ifa a b = false

-- the best route of the destination doesn't lead over the author, or not out of the interface address of the new
-- gateway's network
abbrev pub is_of_another : Option (Entry Route) → ℕ → IfaRef → Bool
is_of_another None author near = false
is_of_another (Some r) author near = not (same_gate r.value.gateway author && same_ifa r.value.ifa near)

-- what is done about the best route: there is none or it is a default; it has no gateway; it is of a network; it is
-- of this host
abbrev pub judged : Option (Entry Route) → Result Verdict Errno
judged None = Ok Create
judged (Some r) =
    if r.rank == 0 then Ok Create
    else (if not (has_flag RTF_GATEWAY r.value) then Err EHOSTUNREACH
    else (if not (has_flag RTF_HOST r.value) then Ok Create else Ok (Modify r)))

-- what is done about a redirect whose new gateway is in the network of this interface address: the author is to be the
-- route's gateway, and the new one no address of an interface
abbrev pub verdict_near : Option (Entry Route) → NewGateway → List Interface → IfaRef → Result Verdict Errno
verdict_near best a interfaces near =
    if is_of_another best a.author near then Err EINVAL
    else (if is_some (with_addr (gate.Inet a.gateway) interfaces) then Err EHOSTUNREACH else judged best)

abbrev pub verdict : NewGateway → List Interface → List (Entry Route) → Result Verdict Errno
verdict a interfaces table = do
  near ← ok_or (with_net (gate.Inet a.gateway) interfaces) ENETUNREACH
  verdict_near (best_of a.destination table) a interfaces near

-- the route that is created, as ADD makes it
abbrev pub dynamic : NewGateway → NewRoute
dynamic a = record {
  destination = a.destination;
  netmask = None;
  gateway = gate.Inet a.gateway;
  genmask = None;
  flags = bit_or (bit_or RTF_GATEWAY RTF_HOST) RTF_DYNAMIC;
  inits = 0;
  metrics = no_metrics;
}

-- the route that is modified
abbrev pub modified : ℕ → Entry Route → Entry Route
modified gateway r =
    record r { value = record r.value { gateway = gate.Inet gateway; flags = bit_or r.value.flags RTF_MODIFIED } }

-- the message of a redirect, with the flag of what was done or tried
abbrev pub redirect_told : NewGateway → ℕ → Option Errno → Notice
redirect_told a tried errno =
    let flags = bit_or (bit_or (bit_or RTF_GATEWAY RTF_HOST) RTF_DONE) tried in
    notice.Redirect a.destination (gate.Inet a.gateway) a.author flags errno

-- what it comes to: its own message comes behind those of the settling
abbrev pub ended : NewGateway → ℕ → List (Entry Route) → Result Adding Errno → Upshot
ended a tried table (Ok it) =
    record { table = it.table; messages = it.messages ++ redirect_told a tried None ∷ []; errno = None }
ended a tried table (Err errno) =
    record { table = table; messages = redirect_told a tried (Some errno) ∷ []; errno = Some errno }

abbrev pub redirect_by : NewGateway → List Interface → List (Entry Route) → Result Verdict Errno → Upshot
redirect_by a interfaces table (Err errno) = ended a 0 table (Err errno)
redirect_by a interfaces table (Ok Create) = ended a RTF_DYNAMIC table (add (dynamic a) interfaces table)
redirect_by a interfaces table (Ok (Modify r)) = ended a RTF_MODIFIED table (Ok (added (modified a.gateway r) table))

abbrev pub redirect : NewGateway → List Interface → List (Entry Route) → Upshot
redirect a interfaces table = redirect_by a interfaces table (verdict a interfaces table)

-- the route that is to be modified, where one is, is so
abbrev pub match_modify : Verdict → (Entry Route → Type 0) → Type 0
match_modify (Modify r) P = P r
match_modify Create P = Unit {0}
