-- What a step that is refused leaves as it was, command by command.
use Rattle.std.proofs.Common.{◌≡◌, ◌≢◌, ℕ, ◌+◌, ◌==◌, Bool, true, false, not, nat_le, List, [], ◌∷◌, length, map, inl, inr, refl, sym, ap, subst, arith}
use Rattle.std.specs.Prelude.{Option, Some, None, Result, Ok, Err, ⊤, IfErr, IfSome, if◌then◌else◌, is_none, is_some, ok_or, option_map}
use Rattle.std.specs.List.{find, list_any}
use Rattle.std.proofs.lemmas.Bool.Decides.{nat_tests}
use Rattle.sock_addrs.specs.Rules.{Rule, rule, first_fault, unless_fault}
use Rattle.sock_addrs.specs.Errno.{is_enobufs}
use Rattle.sock_addrs.specs.Sockaddrs.{family}
use Rattle.sock_addrs.specs.declared.errno.Errno.{Errno}
use Rattle.sock_addrs.specs.declared.errno.Errno.TheVariants.{EADDRINUSE, EADDRNOTAVAIL, EBADF, EEXIST, EHOSTUNREACH, EINVAL, EMFILE, EMSGSIZE, ENETUNREACH, ENOBUFS, ENOMEM, ENOSPC, ENXIO, EOPNOTSUPP, EPROTONOSUPPORT, ESRCH, ETOOMANYREFS}
use Rattle.sock_addrs.specs.declared.families.TheConstants.{AF_INET}
use Rattle.sock_addrs.specs.declared.gate.Gate.TheVariants as gate
use Rattle.route_msgs.specs.declared.flags.TheConstants.{RTF_BLACKHOLE, RTF_HOST, RTF_REJECT}
use Rattle.if_addrs.specs.Facts.{facts_of}
use Rattle.if_addrs.specs.Interfaces.{Address, Interface, added, addr_fault, address_of, attach_fault, find_addr, fits, found_on, has_name, holds, is_at, kind_of, named, new_address, reference, with_address}
use Rattle.if_addrs.specs.declared.limits.TheConstants.{MOST_ADDRESSES, MOST_INTERFACES}
use Rattle.if_addrs.specs.declared.reference.IfaRef.{IfaRef}
use Rattle.listeners.specs.Sockets.{Socket, closed_fault, has_id, listen_fault, lost_of, messages_of, pid_of, socket_of}
use Rattle.listeners.specs.declared.limits.TheConstants.{MOST_SOCKETS}
use Rattle.mask_table.specs.Ranks.{rank_of}
use Rattle.radix_tree.specs.Table.{best_of, entry_at}
use Rattle.radix_tree.specs.declared.entry.Entry.{Entry}
use Rattle.route_entries.specs.Routes.{has_flag}
use Rattle.route_entries.specs.declared.route.Route.{Route}
use Rattle.route_ops.specs.Adding.{Adding, add, added as added_to, ifa_for, new_entry}
use Rattle.route_ops.specs.Addressing.{address_entry, withdrawn}
use Rattle.route_ops.specs.Changing.{change, changed_entry, lock, locked, rewritten, target}
use Rattle.route_ops.specs.Deleting.{route_to_delete, route_to_show}
use Rattle.route_ops.specs.Looks.{Look, look, unless_there}
use Rattle.route_ops.specs.RedirectLaws.{IsReason}
use Rattle.route_ops.specs.Losses.{losing}
use Rattle.route_ops.specs.Redirecting.{redirect}
use Rattle.route_ops.specs.declared.notice.Notice.{Notice}
use Rattle.route_ops.specs.declared.adding.NewRoute.{NewRoute}
use Rattle.route_ops.specs.declared.changing.Change.{Change as Changing}
use Rattle.route_ops.specs.declared.redirecting.NewGateway.{NewGateway}
use Rattle.route_ops.proofs.LossRefused.{refused_losing_keeps}
use Rattle.route_ops.proofs.RedirectRefused.{refused_redirect_keeps}
use Rattle.route_ops.proofs.RefusingLemmas.{err_of_none, err_then}
use Rattle.route_core.specs.Commands.{Command}
use Rattle.route_core.specs.Effects.{request_effect}
use Rattle.route_core.specs.Messages.{notice_told}
use Rattle.route_core.specs.Packets.{choice_of, fate_of, rejection_of}
use Rattle.route_core.specs.RefusalLaws.{EffectsHaveMemory, IsRefusedFamily, NoMemoryKeepsAll, RefusalKeepsInterfaces, RefusalKeepsRoutes, RefusalKeepsSockets, RefusalTells, interfaces_left, is_packet}
use Rattle.route_core.specs.Requests.{Outcome, adding_outcome, delete_outcome, done_reply, get_outcome, lock_outcome, outcome_of}
use Rattle.route_core.specs.Step.{Effect, Stepped, bring_route, done, done_write, effect, lost_effect, packet_by, read_effect, refusal_tells, refused, refused_write, remove_address_effect, remove_found, stepped, take_route, unless_errno, unless_refused, upshot_effect, world_after, write_effect}
use Rattle.route_core.specs.Telling.{delivered_all}
use Rattle.route_core.specs.World.{World}
use Rattle.route_core.specs.Writes.{destination_bytes, message_rules, request_in, request_rules}
use Rattle.route_core.specs.declared.answer.Answer.{Answer}
use Rattle.route_core.specs.declared.answer.Answer.TheVariants.{Dropped, Refused, Routed}
use Rattle.route_core.specs.declared.command.Command.TheVariants.{Attach, AddAddress, RemoveAddress, Open, Close, Loopback, Write, Read, Lost, Packet, Redirect, Losing, DumpSize, Dump}
use Rattle.route_core.specs.declared.refusal.Refusal.{Refusal}
use Rattle.route_core.specs.declared.request.Request.{Request}
use Rattle.route_core.specs.declared.request.Request.TheVariants.{Add, Change, Delete, Get, Lock}
use Rattle.route_core.proofs.MessageEffect.{message_effect}

-- what holds of both branches holds of the choice
either : {X : Type 0} (P : X → Type 0) (b : Bool) (x y : X) → P x → P y → P (if b then x else y)
either P true x y p q = p
either P false x y p q = q

-- ---- no rule is want of memory

abbrev AllFaults : {T : Type 0} → (T → Type 0) → List (Rule T) → Type 0
AllFaults P [] = ⊤
AllFaults P (r ∷ rs) = P r.fault × AllFaults P rs

first_fault-all : {T : Type 0} (P : T → Type 0) (rs : List (Rule T)) → AllFaults P rs → IfSome (first_fault rs) P
first_fault-all P [] h = tt
first_fault-all P (r ∷ rs) h = either (λ o. IfSome o P) r.holds (Some r.fault) (first_fault rs) h.0
    (first_fault-all P rs h.1)

abbrev pub IsFound : Errno → Type 0
IsFound e = e ≢ ENOBUFS

two-all : (P : Errno → Type 0) (a b : Bool) (x y : Errno) → P x → P y
    → IfSome (first_fault (rule a x ∷ rule b y ∷ [])) P
two-all P a b x y p q = first_fault-all P (rule a x ∷ rule b y ∷ []) (p, (q, tt))

attach_fault-found : (name : List ℕ) (interfaces : List Interface) → IfSome (attach_fault name interfaces) IsFound
attach_fault-found name interfaces =
    two-all IsFound (list_any (has_name name) interfaces) (nat_le MOST_INTERFACES (length interfaces)) EEXIST ENOSPC
    (λ h. absurd (cc)) (λ h. absurd (cc))

listen_fault-found : (id : List ℕ) (sockets : List Socket) → IfSome (listen_fault id sockets) IsFound
listen_fault-found id sockets =
    two-all IsFound (list_any (has_id id) sockets) (nat_le MOST_SOCKETS (length sockets)) EEXIST EMFILE
    (λ h. absurd (cc)) (λ h. absurd (cc))

closed_fault-found : (id : List ℕ) (sockets : List Socket) → IfSome (closed_fault id sockets) IsFound
closed_fault-found id sockets =
    first_fault-all IsFound (rule (is_none (socket_of id sockets)) EBADF ∷ []) (λ h. absurd (cc), tt)

addr_fault-all : (P : Errno → Type 0) (name : List ℕ) (address : ℕ) (far : Option ℕ) (interfaces : List Interface)
    → P ENXIO → P EINVAL → P EADDRINUSE → P ENOSPC → IfSome (addr_fault name address far interfaces) P
addr_fault-all P name address far interfaces p q r s = first_fault-all P
    (rule (is_none (named name interfaces)) ENXIO
    ∷ rule (not (fits (kind_of name interfaces) far)) EINVAL
    ∷ rule (list_any (holds address) interfaces) EADDRINUSE
    ∷ rule (nat_le MOST_ADDRESSES (added interfaces)) ENOSPC
    ∷ [])
    (p, (q, (r, (s, tt))))

-- ---- nor is it why a call is refused

-- what is refused is so for another cause than memory
abbrev pub FoundErr : {T : Type 0} → Result T Errno → Type 0
FoundErr r = IfErr r IsFound

ok_or-found : {T : Type 0} (o : Option T) (errno : Errno) → IsFound errno → FoundErr (ok_or o errno)
ok_or-found o errno found = err_of_none IsFound o errno found

on-found : (address : ℕ) (i : Option Interface) → FoundErr (found_on address i)
on-found address None = λ h. absurd (cc)
on-found address (Some i) =
    ok_or-found (option_map reference (find (is_at address) i.addresses)) EADDRNOTAVAIL (λ h. absurd (cc))

there-found : (r : Entry Route) (table : List (Entry Route)) → FoundErr (unless_there r table)
there-found r table =
    either (λ o. FoundErr o) (is_some (entry_at r.key r.rank table)) (Err EEXIST) (Ok r) (λ h. absurd (cc)) tt

add-found : (a : NewRoute) (interfaces : List Interface) (table : List (Entry Route))
    → FoundErr (add a interfaces table)
add-found a interfaces table =
    err_then IsFound (ok_or (ifa_for a interfaces table) ENETUNREACH) _
    (ok_or-found (ifa_for a interfaces table) ENETUNREACH (λ h. absurd (cc)))
    (λ ifa. err_then IsFound (unless_there (new_entry a ifa) table) (λ r. Ok (added_to r table))
    (there-found (new_entry a ifa) table) (λ r. tt))

target-found : (destination : ℕ) (netmask : Option ℕ) (table : List (Entry Route))
    → FoundErr (target destination netmask table)
target-found destination netmask table =
    let there = ok_or (entry_at destination (rank_of netmask) table) ETOOMANYREFS in
    err_then IsFound (ok_or (best_of destination table) ESRCH) _
    (ok_or-found (best_of destination table) ESRCH (λ h. absurd (cc)))
    (λ best. either (λ r. FoundErr r) (best.key == destination) there (Err ESRCH)
    (ok_or-found (entry_at destination (rank_of netmask) table) ETOOMANYREFS (λ h. absurd (cc))) (λ h. absurd (cc)))

change-found : (a : Changing) (interfaces : List Interface) (table : List (Entry Route))
    → FoundErr (change a interfaces table)
change-found a interfaces table =
    err_then IsFound (target a.destination a.netmask table)
    (λ r. Ok (rewritten a.gateway (changed_entry a interfaces table r) table))
    (target-found a.destination a.netmask table) (λ r. tt)

lock-refusal-found : (destination : ℕ) (netmask : Option ℕ) (inits locks : ℕ) (table : List (Entry Route))
    → FoundErr (lock destination netmask inits locks table)
lock-refusal-found destination netmask inits locks table =
    err_then IsFound (target destination netmask table) (λ r. Ok (locked inits locks r))
    (target-found destination netmask table) (λ r. tt)

-- ---- requests

adding-found : (reply : List ℕ) (r : Result Adding Errno) → FoundErr r → FoundErr (adding_outcome reply r)
adding-found reply (Ok a) found = tt
adding-found reply (Err errno) found = found

pub delete-found : (table : List (Entry Route)) (reply : List ℕ) (r : Option (Entry Route))
    → FoundErr (delete_outcome table reply r)
delete-found table reply None = λ h. absurd (cc)
delete-found table reply (Some r) = tt

lock-found : (table : List (Entry Route)) (reply : List ℕ) (r : Result (Entry Route) Errno) → FoundErr r
    → FoundErr (lock_outcome table reply r)
lock-found table reply (Ok r) found = tt
lock-found table reply (Err errno) found = found

get-found : (interfaces : List Interface) (table : List (Entry Route)) (pid : ℕ) (m : List ℕ) (shows : Bool)
    (r : Result (Entry Route) Errno)
    → FoundErr r → FoundErr (get_outcome interfaces table pid m shows r)
get-found interfaces table pid m shows (Ok r) found = tt
get-found interfaces table pid m shows (Err errno) found = found

pub outcome-found : (interfaces : List Interface) (table : List (Entry Route)) (pid : ℕ) (m : List ℕ) (request : Request)
    → FoundErr (outcome_of interfaces table pid m request)
outcome-found interfaces table pid m (Add a) = adding-found (done_reply pid m) (add a interfaces table)
    (add-found a interfaces table)
outcome-found interfaces table pid m (Delete key netmask flags) = delete-found table (done_reply pid m)
    (route_to_delete key netmask flags table)
outcome-found interfaces table pid m (Change a) =
    adding-found (done_reply pid m) (change a interfaces table) (change-found a interfaces table)
outcome-found interfaces table pid m (Lock destination netmask inits locks) =
    lock-found table (done_reply pid m) (lock destination netmask inits locks table)
    (lock-refusal-found destination netmask inits locks table)
outcome-found interfaces table pid m (Get destination shows) =
    get-found interfaces table pid m shows (route_to_show destination table)
    (ok_or-found (best_of destination table) ESRCH (λ h. absurd (cc)))

-- ---- redirects

reason-found : (errno : Errno) → IsReason errno → IsFound errno
reason-found errno (inl is) = λ h. absurd (cc)
reason-found errno (inr (inl is)) = λ h. absurd (cc)
reason-found errno (inr (inr (inl is))) = λ h. absurd (cc)
reason-found errno (inr (inr (inr is))) = λ h. absurd (cc)

-- ---- packets

rejection-found : (r : Route) → IsFound (rejection_of r)
rejection-found r =
    either IsFound (has_flag RTF_HOST r) EHOSTUNREACH ENETUNREACH (λ h. absurd (cc)) (λ h. absurd (cc))

fate-found : (interfaces : List Interface) (r : Entry Route) (errno : Errno)
    → fate_of interfaces r ≡ Refused errno → IsFound errno
fate-found interfaces r errno =
    let IsFoundAnswer : Answer → Type 0 = λ a. a ≡ Refused errno → IsFound errno in
    let refusal : Answer = Refused (rejection_of r.value) in
    let refuses : IsFoundAnswer refusal =
    λ h. (let same : rejection_of r.value ≡ errno = cc in subst IsFound same (rejection-found r.value)) in
    either IsFoundAnswer (has_flag RTF_BLACKHOLE r.value) (Dropped (choice_of interfaces r)) _ (λ h. absurd (cc))
    (either IsFoundAnswer (has_flag RTF_REJECT r.value) refusal (Routed (choice_of interfaces r)) refuses
    (λ h. absurd (cc)))

-- ---- what a write is refused for

-- it is no want of memory, and its reply is of the destination's family, or of 0
abbrev pub IsFoundIn : List ℕ → Refusal → Type 0
IsFoundIn m r = IsFound r.errno × IfSome r.family (IsRefusedFamily m)

request_rules-found : (m : List ℕ) → AllFaults (IsFoundIn m) (request_rules m (family (destination_bytes m)))
request_rules-found m = (
  (λ h. absurd (cc), inr refl),
  (
    (λ h. absurd (cc), inr refl),
    ((λ h. absurd (cc), inr refl), ((λ h. absurd (cc), inr refl), tt)),
  ),
)

pub message_rules-found : (m : List ℕ) → IfSome (first_fault (message_rules m)) (IsFoundIn m)
message_rules-found m = first_fault-all (IsFoundIn m) (message_rules m) (
  (λ h. absurd (cc), tt),
  (
    (λ h. absurd (cc), tt),
    (
      (λ h. absurd (cc), inl refl),
      (
        (λ h. absurd (cc), inl refl),
        ((λ h. absurd (cc), inl refl), request_rules-found m),
      ),
    ),
  ),
)

-- no rule holds
abbrev AllPass : {T : Type 0} → List (Rule T) → Type 0
AllPass [] = ⊤
AllPass (r ∷ rs) = (r.holds ≡ false) × AllPass rs

pass : {T : Type 0} (b : Bool) (x : T) (o : Option T) → (if b then Some x else o) ≡ None → (b ≡ false) × (o ≡ None)
pass true x o h = absurd (cc)
pass false x o h = (refl, h)

first_fault-none : {T : Type 0} (rs : List (Rule T)) → first_fault rs ≡ None → AllPass rs
first_fault-none [] h = tt
first_fault-none (r ∷ rs) h = let p = pass r.holds r.fault (first_fault rs) h in (p.0, first_fault-none rs p.1)

is_inet : (f : ℕ) → not (f == AF_INET) ≡ false → AF_INET ≡ f
is_inet f h = grind (arith, nat_tests)

-- a write that is passed has a destination of IPv4: that is the last reason to refuse one
passed-inet : (m : List ℕ) → first_fault (message_rules m) ≡ None → IsRefusedFamily m AF_INET
passed-inet m h = inr (is_inet (family (destination_bytes m)) (first_fault-none (message_rules m) h).1.1.1.1.1.1.1.1.0)

-- ---- what a refusal leaves

-- the effect of a command that is refused so, and not for want of memory
record IsSparing (c : Command) (old : World) (e : Effect) (errno : Errno) : Type 0 where
  routes_kept : is_packet c ≡ false → e.table ≡ old.table
  interfaces_kept : e.interfaces ≡ interfaces_left c errno old.interfaces
  sockets_kept : e.sockets ≡ old.sockets
  tells : RefusalTells old c errno e.told
  found : IsFound errno

record Spares (c : Command) (old : World) (e : Effect) : Type 0 where
  on : (errno : Errno) → e.answer ≡ Refused errno → IsSparing c old e errno

spares-answered : (c : Command) (old : World) (e : Effect) (x : Errno) → e.answer ≡ Refused x → IsSparing c old e x
    → Spares c old e
spares-answered c old e x is spared =
    record { on = λ errno h. let same : x ≡ errno = cc in subst (IsSparing c old e) same spared }

-- a command that leaves all as it was
record LeavesAll (c : Command) (old : World) (errno : Errno) : Type 0 where
  interfaces_left_so : old.interfaces ≡ interfaces_left c errno old.interfaces
  errno_found : IsFound errno

spares-refused : (c : Command) (old : World) (x : Errno) → LeavesAll c old x → Spares c old (refused old x)
spares-refused c old x leaves = spares-answered c old (refused old x) x refl (record {
  routes_kept = λ other. refl;
  interfaces_kept = leaves.interfaces_left_so;
  sockets_kept = refl;
  tells = inl refl;
  found = leaves.errno_found;
})

-- what is not refused spares all
abbrev IsNoRefusal : Answer → Type 0
IsNoRefusal answer = (errno : Errno) → answer ≢ Refused errno

spares-other : (c : Command) (old : World) (e : Effect) → IsNoRefusal e.answer → Spares c old e
spares-other c old e other = record { on = λ errno h. absurd (other errno h) }

spares-fault : (c : Command) (old : World) (fault : Option Errno) (e : Effect) → IfSome fault (LeavesAll c old)
    → Spares c old e
    → Spares c old (unless_refused old fault e)
spares-fault c old None e leaves spares = spares
spares-fault c old (Some x) e leaves spares = spares-refused c old x leaves

leaves-found : (c : Command) (old : World) (fault : Option Errno)
    → ((e : Errno) → IsFound e → LeavesAll c old e) → IfSome fault IsFound → IfSome fault (LeavesAll c old)
leaves-found c old None leaves found = tt
leaves-found c old (Some e) leaves found = leaves e found

-- `addr`
spares-brought : (name : List ℕ) (address prefix : ℕ) (cloning : Bool) (far : Option ℕ) (old : World) (r : Entry Route)
    → let c = AddAddress name address prefix cloning far in
    let interfaces = with_address name address prefix cloning far old.interfaces in
    let a = new_address (added old.interfaces + 1) (kind_of name old.interfaces) address prefix cloning far in
    Spares c old (bring_route old interfaces address (facts_of a) r)
spares-brought name address prefix cloning far old r =
    let c = AddAddress name address prefix cloning far in
    let interfaces = with_address name address prefix cloning far old.interfaces in
    let refusal = record (refused old EEXIST) { interfaces = interfaces } in
    either (Spares c old) (is_some (entry_at r.key r.rank old.table)) refusal _
    (spares-answered c old refusal EEXIST refl (record {
      routes_kept = λ other. refl;
      interfaces_kept = refl;
      sockets_kept = refl;
      tells = inl refl;
      found = λ h. absurd (cc);
    }))
    (spares-other c old _ (λ errno h. absurd (cc)))

spares-address : (name : List ℕ) (address prefix : ℕ) (cloning : Bool) (far : Option ℕ) (old : World)
    → let c = AddAddress name address prefix cloning far in IfSome (addr_fault name address far old.interfaces)
    (LeavesAll c old)
spares-address name address prefix cloning far old =
    let c = AddAddress name address prefix cloning far in
    addr_fault-all (LeavesAll c old) name address far old.interfaces
    (record { interfaces_left_so = refl; errno_found = λ h. absurd (cc) })
    (record { interfaces_left_so = refl; errno_found = λ h. absurd (cc) })
    (record { interfaces_left_so = refl; errno_found = λ h. absurd (cc) })
    (record { interfaces_left_so = refl; errno_found = λ h. absurd (cc) })

-- `unaddr`
spares-taken : (c : Command) (old : World) (ifa : IfaRef) (address : ℕ) (a : Address) (r : Option (Entry Route))
    → Spares c old (take_route old ifa address (facts_of a) r)
spares-taken c old ifa address a None = spares-other c old _ (λ errno h. absurd (cc))
spares-taken c old ifa address a (Some r) = spares-other c old _ (λ errno h. absurd (cc))

spares-found : (c : Command) (old : World) (ifa : IfaRef) (address : ℕ) (a : Option Address)
    → Spares c old (remove_found old ifa address a)
spares-found c old ifa address None = spares-other c old (done old) (λ errno h. absurd (cc))
spares-found c old ifa address (Some a) =
    spares-taken c old ifa address a (withdrawn ifa address (facts_of a) old.table)

spares-removed : (name : List ℕ) (address : ℕ) (old : World) (ifa : Result IfaRef Errno) → FoundErr ifa
    → Spares (RemoveAddress name address) old (remove_address_effect old address ifa)
spares-removed name address old (Err x) found =
    spares-refused (RemoveAddress name address) old x
    (record { interfaces_left_so = refl; errno_found = found })
spares-removed name address old (Ok ifa) found =
    spares-found (RemoveAddress name address) old ifa address (address_of ifa old.interfaces)

-- `write`
refusal_tells-told : (old : World) (id : List ℕ) (pid : ℕ) (m : List ℕ) (errno : Errno) (f : Option ℕ)
    → pid_of id old.sockets ≡ Some pid → IfSome f (IsRefusedFamily m)
    → RefusalTells old (Write id m) errno (refusal_tells id pid m (record { errno = errno; family = f }))
refusal_tells-told old id pid m errno None writer of = inl refl
refusal_tells-told old id pid m errno (Some f) writer of = inr (pid, f, writer, of, refl)

spares-refused_write : (old : World) (id : List ℕ) (pid : ℕ) (m : List ℕ) (r : Refusal)
    → pid_of id old.sockets ≡ Some pid → IsFoundIn m r → Spares (Write id m) old (refused_write old id pid m r)
spares-refused_write old id pid m r writer found =
    spares-answered (Write id m) old (refused_write old id pid m r) r.errno refl (record {
      routes_kept = λ other. refl;
      interfaces_kept = refl;
      sockets_kept = refl;
      tells = refusal_tells-told old id pid m r.errno r.family writer found.1;
      found = found.0;
    })

spares-outcome : (old : World) (id : List ℕ) (pid : ℕ) (m : List ℕ) (outcome : Result Outcome Errno)
    → pid_of id old.sockets ≡ Some pid → IsRefusedFamily m AF_INET → FoundErr outcome
    → Spares (Write id m) old (request_effect old id pid m outcome)
spares-outcome old id pid m (Ok o) writer inet found = spares-other (Write id m) old (done_write old id o)
    (λ errno h. absurd (cc))
spares-outcome old id pid m (Err errno) writer inet found =
    spares-refused_write old id pid m (record { errno = errno; family = Some AF_INET }) writer (found, inet)

spares-request : (old : World) (id : List ℕ) (pid : ℕ) (m : List ℕ) (fault : Option Refusal)
    → first_fault (message_rules m) ≡ fault → pid_of id old.sockets ≡ Some pid → IfSome fault (IsFoundIn m)
    → Spares (Write id m) old (message_effect old id pid m (unless_fault fault (request_in m)))
spares-request old id pid m None passed writer found =
    spares-outcome old id pid m (outcome_of old.interfaces old.table pid m (request_in m)) writer (passed-inet m passed)
    (outcome-found old.interfaces old.table pid m (request_in m))
spares-request old id pid m (Some r) passed writer found = spares-refused_write old id pid m r writer found

spares-write : (old : World) (id m : List ℕ) (pid : Option ℕ) → pid_of id old.sockets ≡ pid
    → Spares (Write id m) old (write_effect old id m pid)
spares-write old id m None writer =
    spares-refused (Write id m) old EBADF
    (record { interfaces_left_so = refl; errno_found = λ h. absurd (cc) })
spares-write old id m (Some pid) writer =
    spares-request old id pid m (first_fault (message_rules m)) refl writer (message_rules-found m)

-- `read`
spares-read : (old : World) (id : List ℕ) (messages : Option (List (List ℕ)))
    → Spares (Read id) old (read_effect old id messages)
spares-read old id None =
    spares-refused (Read id) old EBADF
    (record { interfaces_left_so = refl; errno_found = λ h. absurd (cc) })
spares-read old id (Some messages) = spares-other (Read id) old (read_effect old id (Some messages))
    (λ errno h. absurd (cc))

-- `lost`
spares-lost : (old : World) (id : List ℕ) (count : Option ℕ) → Spares (Lost id) old (lost_effect old count)
spares-lost old id None =
    spares-refused (Lost id) old EBADF (record { interfaces_left_so = refl; errno_found = λ h. absurd (cc) })
spares-lost old id (Some count) = spares-other (Lost id) old (lost_effect old (Some count)) (λ errno h. absurd (cc))

-- `packet`
spares-packet : (old : World) (destination : ℕ) (it : Look) (answer : Option (Entry Route))
    → it ≡ look true (gate.Inet destination) old.table → Spares (Packet destination) old (packet_by old it answer)
spares-packet old destination it None is =
    spares-answered (Packet destination) old (packet_by old it None) EHOSTUNREACH refl (record {
      routes_kept = λ other. absurd (cc);
      interfaces_kept = refl;
      sockets_kept = refl;
      tells = inr (ap (λ (l : Look). map notice_told l.messages) is);
      found = λ h. absurd (cc);
    })
spares-packet old destination it (Some r) is = record {
  on = λ errno h. record {
    routes_kept = λ other. absurd (cc);
    interfaces_kept = refl;
    sockets_kept = refl;
    tells = inr (ap (λ (l : Look). map notice_told l.messages) is);
    found = fate-found old.interfaces r errno h;
  };
}

-- `redirect`
refused_for : (o : Option Errno) (errno : Errno) → unless_errno o ≡ Refused errno → o ≡ Some errno
refused_for None errno h = absurd (cc)
refused_for (Some x) errno h = cc

spares-redirect : (old : World) (asked : NewGateway)
    → Spares (Redirect asked) old (upshot_effect old (redirect asked old.interfaces old.table))
spares-redirect old asked =
    let it = redirect asked old.interfaces old.table in
    record {
      on = λ errno h. (
          let so = refused_redirect_keeps asked old.interfaces old.table errno (refused_for it.errno errno h) in
          record {
            routes_kept = λ other. so.kept;
            interfaces_kept = refl;
            sockets_kept = refl;
            tells = inr (so.tried, ap (λ (ns : List Notice). map notice_told ns) so.tells);
            found = reason-found errno so.reason;
          });
    }

-- `losing`
spares-losing : (old : World) (destination : ℕ)
    → Spares (Losing destination) old (upshot_effect old (losing destination old.table))
spares-losing old destination =
    let it = losing destination old.table in
    record {
      on = λ errno h. (
          let so = refused_losing_keeps destination old.table errno (refused_for it.errno errno h) in
          record {
            routes_kept = λ other. so.kept;
            interfaces_kept = refl;
            sockets_kept = refl;
            tells = inl (ap (λ (ns : List Notice). map notice_told ns) so.tells);
            found = subst IsFound (sym so.reason) (λ h. absurd (cc));
          });
    }

effect-spares : (old : World) (c : Command) → Spares c old (effect old c)
unfolding effect
effect-spares old (Attach name kind type_number link) =
    let c = Attach name kind type_number link in
    spares-fault c old (attach_fault name old.interfaces) _
    (leaves-found c old (attach_fault name old.interfaces)
    (λ e found. record { interfaces_left_so = refl; errno_found = found })
    (attach_fault-found name old.interfaces))
    (spares-other c old _ (λ errno h. absurd (cc)))
effect-spares old (AddAddress name address prefix cloning far) =
    let c = AddAddress name address prefix cloning far in
    let a = new_address (added old.interfaces + 1) (kind_of name old.interfaces) address prefix cloning far in
    spares-fault c old (addr_fault name address far old.interfaces) _
    (spares-address name address prefix cloning far old)
    (spares-brought name address prefix cloning far old (address_entry (reference a) address (facts_of a)))
effect-spares old (RemoveAddress name address) =
    spares-removed name address old (find_addr name address old.interfaces)
    (on-found address (named name old.interfaces))
effect-spares old (Open id pid protocol) =
    let c = Open id pid protocol in
    spares-fault c old (listen_fault id old.sockets) _
    (leaves-found c old (listen_fault id old.sockets)
    (λ e found. record { interfaces_left_so = refl; errno_found = found })
    (listen_fault-found id old.sockets))
    (spares-other c old _ (λ errno h. absurd (cc)))
effect-spares old (Close id) =
    let c = Close id in
    spares-fault c old (closed_fault id old.sockets) _
    (leaves-found c old (closed_fault id old.sockets)
    (λ e found. record { interfaces_left_so = refl; errno_found = found })
    (closed_fault-found id old.sockets))
    (spares-other c old _ (λ errno h. absurd (cc)))
effect-spares old (Loopback id on) =
    let c = Loopback id on in
    spares-fault c old (closed_fault id old.sockets) _
    (leaves-found c old (closed_fault id old.sockets)
    (λ e found. record { interfaces_left_so = refl; errno_found = found })
    (closed_fault-found id old.sockets))
    (spares-other c old _ (λ errno h. absurd (cc)))
effect-spares old (Write id m) = spares-write old id m (pid_of id old.sockets) refl
effect-spares old (Read id) = spares-read old id (messages_of id old.sockets)
effect-spares old (Lost id) = spares-lost old id (lost_of id old.sockets)
effect-spares old (Packet destination) =
    let it = look true (gate.Inet destination) old.table in spares-packet old destination it it.answer refl
effect-spares old (Redirect asked) = spares-redirect old asked
effect-spares old (Losing destination) = spares-losing old destination
effect-spares old (DumpSize flags) = spares-other (DumpSize flags) old _ (λ errno h. absurd (cc))
effect-spares old (Dump flags room) = spares-other (Dump flags room) old _ (λ errno h. absurd (cc))

-- ---- in any step of the program

-- the machine's step, by its effect
spared : (old : World) (c : Command) (errno : Errno) (new : World)
    → stepped old c ≡ record { world = new; answer = Refused errno } → IsSparing c old (effect old c) errno
spared old c errno new is = (effect-spares old c).on errno (ap (λ (s : Stepped). s.answer) is)

after : (old : World) (c : Command) (errno : Errno) (new : World)
    → stepped old c ≡ record { world = new; answer = Refused errno } → world_after (effect old c) ≡ new
after old c errno new is = ap (λ (s : Stepped). s.world) is

-- want of memory leaves every interface, and tells nothing
left-without_memory : (c : Command) (interfaces : List Interface) → interfaces_left c ENOBUFS interfaces ≡ interfaces
left-without_memory (Attach name kind type_number link) interfaces = refl
left-without_memory (AddAddress name address prefix cloning far) interfaces = refl
left-without_memory (RemoveAddress name address) interfaces = refl
left-without_memory (Open id pid protocol) interfaces = refl
left-without_memory (Close id) interfaces = refl
left-without_memory (Loopback id on) interfaces = refl
left-without_memory (Write id m) interfaces = refl
left-without_memory (Read id) interfaces = refl
left-without_memory (Lost id) interfaces = refl
left-without_memory (Packet destination) interfaces = refl
left-without_memory (Redirect asked) interfaces = refl
left-without_memory (Losing destination) interfaces = refl
left-without_memory (DumpSize flags) interfaces = refl
left-without_memory (Dump flags room) interfaces = refl

errno_is : (e : Errno) → Refused e ≡ Refused ENOBUFS → e ≡ ENOBUFS
errno_is e h = cc

pub refusal_keeps_routes : RefusalKeepsRoutes
refusal_keeps_routes old c errno new other (inl is) = rw (sym (after old c errno new is))
    ((spared old c errno new is).routes_kept other)
refusal_keeps_routes old c errno new other (inr h) = ap (λ (w : World). w.table) h.2

pub refusal_keeps_interfaces : RefusalKeepsInterfaces
refusal_keeps_interfaces old c errno new (inl is) = rw (sym (after old c errno new is))
    (spared old c errno new is).interfaces_kept
refusal_keeps_interfaces old c errno new (inr h) = rw (errno_is errno h.1, h.2)
    (sym (left-without_memory c old.interfaces))

pub refusal_keeps_sockets : RefusalKeepsSockets
refusal_keeps_sockets old c errno new (inl is) =
    let all = spared old c errno new is in (
      (effect old c).told,
      all.tells,
      rw (sym (after old c errno new is))
          (ap (delivered_all (effect old c).told) all.sockets_kept),
    )
refusal_keeps_sockets old c errno new (inr h) =
    ([], inl refl, ap (λ (w : World). w.sockets) h.2)

pub no_memory_keeps_all : NoMemoryKeepsAll
no_memory_keeps_all old c new (inl is) = absurd ((spared old c ENOBUFS new is).found refl)
no_memory_keeps_all old c new (inr h) = h.2

-- the machine itself never answers so
pub effects_have_memory : EffectsHaveMemory
effects_have_memory old c is = ((effect-spares old c).on ENOBUFS is).found refl

-- nor, so, an errno that says it
pub enobufs_or : (e : Errno) → IsFound e → is_enobufs e ≡ false
enobufs_or ENOBUFS found = absurd (found refl)
enobufs_or ESRCH found = refl
enobufs_or ENXIO found = refl
enobufs_or EBADF found = refl
enobufs_or ENOMEM found = refl
enobufs_or EEXIST found = refl
enobufs_or EINVAL found = refl
enobufs_or EMFILE found = refl
enobufs_or ENOSPC found = refl
enobufs_or EMSGSIZE found = refl
enobufs_or EPROTONOSUPPORT found = refl
enobufs_or EOPNOTSUPP found = refl
enobufs_or EADDRINUSE found = refl
enobufs_or EADDRNOTAVAIL found = refl
enobufs_or ENETUNREACH found = refl
enobufs_or ETOOMANYREFS found = refl
enobufs_or EHOSTUNREACH found = refl

pub never_short : (old : World) (c : Command) (errno : Errno) (new : World)
    → stepped old c ≡ record { world = new; answer = Refused errno } → is_enobufs errno ≡ false
never_short old c errno new is = enobufs_or errno (spared old c errno new is).found
