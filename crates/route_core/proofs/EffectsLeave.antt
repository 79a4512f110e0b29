-- The machine leaves messages out for want of room alone.
use Rattle.std.proofs.Common.{◌≡◌, ◌+◌, ℕ, nat_lt, Bool, true, false, List, Option, Some, None, Result, Ok, Err, refl, subst}
use Rattle.std.specs.Prelude.{⊤, if◌then◌else◌, IfErr, is_some, ok_or}
use Rattle.sock_addrs.specs.declared.errno.Errno.{Errno}
use Rattle.sock_addrs.specs.declared.errno.Errno.TheVariants.{EBADF, ENOMEM}
use Rattle.sock_addrs.specs.declared.gate.Gate.TheVariants as gate
use Rattle.if_addrs.specs.Facts.{facts_of}
use Rattle.if_addrs.specs.Interfaces.{Address, Interface, added, addr_fault, address_of, attach_fault, find_addr, kind_of, new_address, reference, with_address}
use Rattle.if_addrs.specs.declared.reference.Facts.{Facts}
use Rattle.if_addrs.specs.declared.reference.IfaRef.{IfaRef}
use Rattle.listeners.specs.Sockets.{closed_fault, listen_fault, lost_of, messages_of, pid_of}
use Rattle.radix_tree.specs.Table.{entry_at}
use Rattle.radix_tree.specs.declared.entry.Entry.{Entry}
use Rattle.route_entries.specs.Routes.{has_flag}
use Rattle.route_entries.specs.declared.route.Route.{Route}
use Rattle.route_msgs.specs.declared.flags.TheConstants.{RTF_BLACKHOLE, RTF_REJECT}
use Rattle.route_ops.specs.Addressing.{address_entry, withdrawn}
use Rattle.route_ops.specs.Looks.{Look, look}
use Rattle.route_ops.specs.Losses.{losing}
use Rattle.route_ops.specs.Redirecting.{redirect}
use Rattle.route_ops.specs.Refusing.{◌>>=◌}
use Rattle.table_dump.specs.Dumps.{fitting, shown_of, total_of}
use Rattle.route_core.specs.Commands.{Command}
use Rattle.route_core.specs.Packets.{choice_of, rejection_of}
use Rattle.route_core.specs.RefusalLaws.{LeftOutForRoom}
use Rattle.route_core.specs.Requests.{outcome_of}
use Rattle.route_core.specs.Step.{Effect, bring_route, dump_effect, effect, either_way, lost_effect, or_refused, packet_by, read_effect, refused, refused_request, refused_write, remove_address_effect, remove_found, take_route, unless_errno, unless_refused, write_effect}
use Rattle.route_core.specs.World.{World}
use Rattle.route_core.specs.Writes.{request_of}
use Rattle.route_core.specs.declared.answer.Answer.{Answer}
use Rattle.route_core.specs.declared.answer.Answer.TheVariants.{Done, Refused, Routed, Dropped, Size, Messages}
use Rattle.route_core.specs.declared.command.Command.TheVariants.{Attach, AddAddress, RemoveAddress, Open, Close, Loopback, Write, Read, Lost, Packet, Redirect, Losing, DumpSize, Dump}

-- the answer leaves messages out for want of room alone
abbrev LeavesNone : Answer → Type 0
LeavesNone (Messages messages (Some errno)) = errno ≡ ENOMEM
LeavesNone (Messages messages None) = ⊤
LeavesNone (Refused errno) = ⊤
LeavesNone Done = ⊤
LeavesNone (Routed choice) = ⊤
LeavesNone (Dropped choice) = ⊤
LeavesNone (Size size) = ⊤

abbrev Leaves : Effect → Type 0
Leaves e = LeavesNone e.answer

-- what holds of both branches holds of the choice
either : {X : Type 0} (P : X → Type 0) (b : Bool) (x y : X) → P x → P y → P (if b then x else y)
either P true x y p q = p
either P false x y p q = q

leaves-fault : (w : World) (fault : Option Errno) (e : Effect) → Leaves e → Leaves (unless_refused w fault e)
leaves-fault w None e h = h
leaves-fault w (Some errno) e h = tt

leaves-brought : (w : World) (interfaces : List Interface) (address : ℕ) (facts : Facts) (r : Entry Route)
    → Leaves (bring_route w interfaces address facts r)
leaves-brought w interfaces address facts r = either Leaves (is_some (entry_at r.key r.rank w.table)) _ _ tt tt

leaves-taken : (w : World) (ifa : IfaRef) (address : ℕ) (facts : Facts) (r : Option (Entry Route))
    → Leaves (take_route w ifa address facts r)
leaves-taken w ifa address facts None = tt
leaves-taken w ifa address facts (Some r) = tt

leaves-found : (w : World) (ifa : IfaRef) (address : ℕ) (a : Option Address) → Leaves (remove_found w ifa address a)
leaves-found w ifa address None = tt
leaves-found w ifa address (Some a) = leaves-taken w ifa address (facts_of a) (withdrawn ifa address (facts_of a) w.table)

leaves-removed : (w : World) (address : ℕ) (ifa : Result IfaRef Errno) → Leaves (remove_address_effect w address ifa)
leaves-removed w address (Err errno) = tt
leaves-removed w address (Ok ifa) = leaves-found w ifa address (address_of ifa w.interfaces)

-- a step that may be refused, and those behind it
leaves-then : {A : Type 0} (r : Result A Effect) (more : A → Result Effect Effect) → IfErr r Leaves
    → ((x : A) → Leaves (either_way (more x))) → Leaves (either_way (r >>= more))
leaves-then (Ok x) more err ok = ok x
leaves-then (Err e) more err ok = err

leaves-refused : {A E : Type 0} (f : E → Effect) (r : Result A E) → ((e : E) → Leaves (f e)) → IfErr (or_refused f r) Leaves
leaves-refused f (Ok x) h = tt
leaves-refused f (Err e) h = h e

leaves-unopened : (w : World) (writer : Option ℕ) → IfErr (ok_or writer (refused w EBADF)) Leaves
leaves-unopened w None = tt
leaves-unopened w (Some pid) = tt

leaves-write : (w : World) (id m : List ℕ) (writer : Option ℕ) → Leaves (write_effect w id m writer)
leaves-write w id m writer =
    leaves-then (ok_or writer (refused w EBADF)) _ (leaves-unopened w writer)
    (λ pid. leaves-then (or_refused (refused_write w id pid m) (request_of m)) _
    (leaves-refused (refused_write w id pid m) (request_of m) (λ r. tt))
    (λ request. leaves-then (or_refused (refused_request w id pid m) (outcome_of w.interfaces w.table pid m request)) _
    (leaves-refused (refused_request w id pid m) (outcome_of w.interfaces w.table pid m request) (λ e. tt))
    (λ outcome. tt)))

leaves-read : (w : World) (id : List ℕ) (messages : Option (List (List ℕ))) → Leaves (read_effect w id messages)
leaves-read w id None = tt
leaves-read w id (Some messages) = tt

leaves-lost : (w : World) (count : Option ℕ) → Leaves (lost_effect w count)
leaves-lost w None = tt
leaves-lost w (Some count) = tt

leaves-packet : (w : World) (it : Look) (answer : Option (Entry Route)) → Leaves (packet_by w it answer)
leaves-packet w it None = tt
leaves-packet w it (Some r) =
    either LeavesNone (has_flag RTF_BLACKHOLE r.value) (Dropped (choice_of w.interfaces r)) _ tt
    (either LeavesNone (has_flag RTF_REJECT r.value) (Refused (rejection_of r.value)) (Routed (choice_of w.interfaces r)) tt tt)

leaves-upshot : (errno : Option Errno) → LeavesNone (unless_errno errno)
leaves-upshot None = tt
leaves-upshot (Some errno) = tt

leaves-dump : (w : World) (room : ℕ) (messages : List (List ℕ)) → Leaves (dump_effect w room messages)
leaves-dump w room messages =
    either (λ why. LeavesNone (Messages (fitting room messages) why)) (nat_lt room (total_of messages)) (Some ENOMEM) None refl tt

effect-leaves : (w : World) (c : Command) → LeavesNone (effect w c).answer
unfolding effect
effect-leaves w (Attach name kind type_number link) = leaves-fault w (attach_fault name w.interfaces) _ tt
effect-leaves w (AddAddress name address prefix cloning far) =
    let a = new_address (added w.interfaces + 1) (kind_of name w.interfaces) address prefix cloning far in
    leaves-fault w (addr_fault name address far w.interfaces) _
    (leaves-brought w (with_address name address prefix cloning far w.interfaces) address (facts_of a)
    (address_entry (reference a) address (facts_of a)))
effect-leaves w (RemoveAddress name address) = leaves-removed w address (find_addr name address w.interfaces)
effect-leaves w (Open id pid protocol) = leaves-fault w (listen_fault id w.sockets) _ tt
effect-leaves w (Close id) = leaves-fault w (closed_fault id w.sockets) _ tt
effect-leaves w (Loopback id on) = leaves-fault w (closed_fault id w.sockets) _ tt
effect-leaves w (Write id m) = leaves-write w id m (pid_of id w.sockets)
effect-leaves w (Read id) = leaves-read w id (messages_of id w.sockets)
effect-leaves w (Lost id) = leaves-lost w (lost_of id w.sockets)
effect-leaves w (Packet destination) =
    let it = look true (gate.Inet destination) w.table in leaves-packet w it it.answer
effect-leaves w (Redirect asked) = leaves-upshot (redirect asked w.interfaces w.table).errno
effect-leaves w (Losing destination) = leaves-upshot (losing destination w.table).errno
effect-leaves w (DumpSize flags) = tt
effect-leaves w (Dump flags room) = leaves-dump w room (shown_of flags w.interfaces w.table)

pub left_out_for_room : LeftOutForRoom
left_out_for_room w c messages errno is = subst LeavesNone is (effect-leaves w c)
