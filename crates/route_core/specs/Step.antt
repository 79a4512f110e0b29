-- One step of the world for each command: what it does, and the world and the answer after it.
use Rattle.std.specs.Prelude.{◌≡◌, ◌⊎◌, ◌+◌, ◌*◌, ◌-◌, ◌/◌, ◌^◌, ◌&&◌, ◌<◌, ℕ, Bool, true, false, is_some, is_none, if◌then◌else◌, min, List, [], ◌∷◌, ◌++◌, map, Option, Some, None, Result, Ok, Err, ok_or, unwrap_or}
use Rattle.std.specs.Option.{option_map_or}
use Rattle.sock_addrs.specs.Errno.{is_enobufs}
use Rattle.sock_addrs.specs.declared.errno.Errno.{Errno}
use Rattle.sock_addrs.specs.declared.errno.Errno.TheVariants.{EBADF, EEXIST, EHOSTUNREACH, ENOBUFS}
use Rattle.sock_addrs.specs.declared.families.TheConstants.{AF_INET}
use Rattle.sock_addrs.specs.declared.gate.Gate.TheVariants as gate
use Rattle.if_addrs.specs.Facts.{facts_of}
use Rattle.if_addrs.specs.Interfaces.{Interface, Address, attach_fault, attached, addr_fault, added, address_of, find_addr, new_address, reference, with_address, without_addr, interface_of, kind_of, link_text_of, marked_routed}
use Rattle.if_addrs.specs.declared.kind.Kind.{Kind}
use Rattle.if_addrs.specs.declared.reference.Facts.{Facts}
use Rattle.if_addrs.specs.declared.reference.IfaRef.{IfaRef}
use Rattle.listeners.specs.Sockets.{Socket, pid_of, messages_of, lost_of, closed_fault, listen_fault, opened, taken, without as without_socket, with_loopback}
use Rattle.radix_tree.specs.Table.{entry_at, with_entry, without}
use Rattle.radix_tree.specs.declared.entry.Entry.{Entry}
use Rattle.route_entries.specs.declared.route.Route.{Route}
use Rattle.route_ops.specs.Addressing.{address_entry, withdrawn}
use Rattle.route_ops.specs.Losses.{losing}
use Rattle.route_ops.specs.Looks.{Look, entry_with_one_more_use, look}
use Rattle.route_ops.specs.Redirecting.{redirect}
use Rattle.route_ops.specs.Refusing.{◌>>=◌}
use Rattle.route_ops.specs.Upshot.{Upshot}
use Rattle.route_ops.specs.declared.notice.Notice.{Notice}
use Rattle.table_dump.specs.Dumps.{dump_fault, fitting, shown_of, total_of}
use Rattle.route_core.specs.Commands.{Command}
use Rattle.route_core.specs.Messages.{address_added, address_removed, notice_told, route_added, route_deleted}
use Rattle.route_core.specs.Packets.{clones_for, fate_of}
use Rattle.route_core.specs.Requests.{Outcome, makes_room, outcome_of}
use Rattle.route_core.specs.Telling.{Told, told, delivered_all}
use Rattle.route_core.specs.World.{World}
use Rattle.route_core.specs.Writes.{refused_reply, request_of}
use Rattle.route_core.specs.declared.answer.Answer.{Answer}
use Rattle.route_core.specs.declared.answer.Answer.TheVariants.{Done, Refused, Size, Messages}
use Rattle.route_core.specs.declared.command.Command.TheVariants.{Attach, AddAddress, RemoveAddress, Open, Close, Loopback, Write, Read, Lost, Packet, Redirect, Losing, DumpSize, Dump}
use Rattle.route_core.specs.declared.refusal.Refusal.{Refusal}
use Rattle.route_core.specs.declared.request.Request.{Request}

-- ---- what a command does

-- the table, the interfaces and the sockets that it leaves, the messages that these sockets are then told, in order,
-- and the answer
pub record Effect : Type 0 where
  pub table : List (Entry Route)
  pub interfaces : List Interface
  pub sockets : List Socket
  pub told : List Told
  pub answer : Answer

-- it changes nothing and tells nothing
abbrev pub answered : World → Answer → Effect
answered w answer = record {
  table = w.table;
  interfaces = w.interfaces;
  sockets = w.sockets;
  told = [];
  answer = answer;
}

abbrev pub refused : World → Errno → Effect
refused w errno = answered w (Refused errno)

abbrev pub done : World → Effect
done w = answered w Done

-- refused for the reason, if there is one
abbrev pub unless_refused : World → Option Errno → Effect → Effect
unless_refused w (Some errno) effect = refused w errno
unless_refused w None effect = effect

-- a step that may be refused, and what a command does then
abbrev pub or_refused : {A E : Type 0} → (E → Effect) → Result A E → Result A Effect
or_refused effect (Ok x) = Ok x
or_refused effect (Err e) = Err (effect e)

-- what a command does whose steps were all taken, or of which one was refused
abbrev pub either_way : Result Effect Effect → Effect
either_way (Ok effect) = effect
either_way (Err effect) = effect

-- `if`
abbrev pub attach_effect : World → List ℕ → Kind → ℕ → List ℕ → Effect
attach_effect w name kind type_number link =
    unless_refused w (attach_fault name w.interfaces)
    (record (done w) { interfaces = w.interfaces ++ attached name kind type_number link ∷ [] })

-- the sockets hear of an interface's new address, and then of its route
abbrev pub announced : List Interface → ℕ → Facts → Entry Route → List Told
announced interfaces address facts r =
    let index = interface_of r.value.ifa interfaces in
    let link = unwrap_or (link_text_of index interfaces) [] in
    told (address_added index link address facts) AF_INET None ∷ told (route_added index r) AF_INET None ∷ []

-- an address that these interfaces have got brings its route, unless such a route is there: then the address stays
-- without one
abbrev pub bring_route : World → List Interface → ℕ → Facts → Entry Route → Effect
bring_route w interfaces address facts r =
    if is_some (entry_at r.key r.rank w.table)
    then record (refused w EEXIST) { interfaces = interfaces }
    else record (done w) {
      table = with_entry r w.table;
      interfaces = marked_routed r.value.ifa interfaces;
      told = announced interfaces address facts r;
    }

-- `addr`
abbrev pub add_address_effect : World → List ℕ → ℕ → ℕ → Bool → Option ℕ → Effect
add_address_effect w name address prefix cloning far =
    let a = new_address (added w.interfaces + 1) (kind_of name w.interfaces) address prefix cloning far in
    unless_refused w (addr_fault name address far w.interfaces)
    (bring_route w (with_address name address prefix cloning far w.interfaces) address (facts_of a)
    (address_entry (reference a) address (facts_of a)))

-- the sockets hear that the route of an interface's address is deleted, and then that the address goes
abbrev pub renounced : List Interface → IfaRef → ℕ → Facts → Entry Route → List Told
renounced interfaces ifa address facts r =
    let index = interface_of ifa interfaces in
    let link = unwrap_or (link_text_of index interfaces) [] in
    told (route_deleted index r) AF_INET None ∷ told (address_removed index link address facts) AF_INET None ∷ []

-- an address goes, and the route that it takes away, if any
abbrev pub take_route : World → IfaRef → ℕ → Facts → Option (Entry Route) → Effect
take_route w ifa address facts None = record (done w) { interfaces = without_addr ifa w.interfaces }
take_route w ifa address facts (Some r) = record (done w) {
  table = without r.key r.rank w.table;
  interfaces = without_addr ifa w.interfaces;
  told = renounced w.interfaces ifa address facts r;
}

-- an address that is found is there
abbrev pub remove_found : World → IfaRef → ℕ → Option Address → Effect
remove_found w ifa address None = done w
remove_found w ifa address (Some a) =
    take_route w ifa address (facts_of a) (withdrawn ifa address (facts_of a) w.table)

-- `unaddr`
abbrev pub remove_address_effect : World → ℕ → Result IfaRef Errno → Effect
remove_address_effect w address (Err errno) = refused w errno
remove_address_effect w address (Ok ifa) = remove_found w ifa address (address_of ifa w.interfaces)

-- `open`
abbrev pub open_effect : World → List ℕ → ℕ → ℕ → Effect
open_effect w id pid protocol =
    unless_refused w (listen_fault id w.sockets)
    (record (done w) { sockets = w.sockets ++ opened id pid protocol ∷ [] })

-- `close`
abbrev pub close_effect : World → List ℕ → Effect
close_effect w id =
    unless_refused w (closed_fault id w.sockets) (record (done w) { sockets = without_socket id w.sockets })

-- `loopback`
abbrev pub loopback_effect : World → List ℕ → Bool → Effect
loopback_effect w id on =
    unless_refused w (closed_fault id w.sockets) (record (done w) { sockets = with_loopback id on w.sockets })

-- `write`: what a refused write tells, where anybody hears of it
abbrev pub refusal_tells : List ℕ → ℕ → List ℕ → Refusal → List Told
refusal_tells id pid m r =
    option_map_or (λ family. told (refused_reply r.errno pid m) family (Some id) ∷ []) r.family []

abbrev pub refused_write : World → List ℕ → ℕ → List ℕ → Refusal → Effect
refused_write w id pid m r = record (refused w r.errno) { told = refusal_tells id pid m r }

-- the messages that the request tells, and then the reply
abbrev pub done_write : World → List ℕ → Outcome → Effect
done_write w id o = record (done w) {
  table = o.table;
  told = map notice_told o.notices ++ told o.reply AF_INET (Some id) ∷ [];
}

-- a request that is refused is answered to those who hear IPv4
abbrev pub refused_request : World → List ℕ → ℕ → List ℕ → Errno → Effect
refused_request w id pid m errno = refused_write w id pid m (record { errno = errno; family = Some AF_INET })

-- what the process that opened the socket asks is done, unless there is none, or the message or what it asks is refused
abbrev pub write_effect : World → List ℕ → List ℕ → Option ℕ → Effect
write_effect w id m writer = either_way (do
  pid ← ok_or writer (refused w EBADF)
  request ← or_refused (refused_write w id pid m) (request_of m)
  outcome ← or_refused (refused_request w id pid m) (outcome_of w.interfaces w.table pid m request)
  Ok (done_write w id outcome))

-- `read`
abbrev pub read_effect : World → List ℕ → Option (List (List ℕ)) → Effect
read_effect w id None = refused w EBADF
read_effect w id (Some messages) = record (answered w (Messages messages None)) { sockets = taken id w.sockets }

-- `lost`
abbrev pub lost_effect : World → Option ℕ → Effect
lost_effect w None = refused w EBADF
lost_effect w (Some count) = answered w (Size count)

-- ---- commands on the table

-- they leave this table, tell these notices, in order, and touch nothing else
abbrev pub on_table : World → List (Entry Route) → List Notice → Answer → Effect
on_table w table notices answer = record (answered w answer) { table = table; told = map notice_told notices }

-- `packet`: a look-up, one more use of its answer, and then its fate
abbrev pub packet_by : World → Look → Option (Entry Route) → Effect
packet_by w it None = on_table w it.table it.messages (Refused EHOSTUNREACH)
packet_by w it (Some r) =
    on_table w (with_entry (entry_with_one_more_use r) it.table) it.messages (fate_of w.interfaces r)

abbrev pub packet_effect : World → ℕ → Effect
packet_effect w destination = let it = look true (gate.Inet destination) w.table in packet_by w it it.answer

-- `redirect`, `losing`: done, or refused for the reason
abbrev pub unless_errno : Option Errno → Answer
unless_errno None = Done
unless_errno (Some errno) = Refused errno

abbrev pub upshot_effect : World → Upshot → Effect
upshot_effect w it = on_table w it.table it.messages (unless_errno it.errno)

-- ---- dumps

-- `dump ask`, `flags X ask`: as many bytes as the dump takes and a tenth more, or the greatest number of 64 bits
abbrev pub size_to_ask : ℕ → ℕ
size_to_ask total = min (11 * total / 10) (2 ^ 64 - 1)

abbrev pub dump_size_effect : World → Option ℕ → Effect
dump_size_effect w flags = answered w (Size (size_to_ask (total_of (shown_of flags w.interfaces w.table))))

-- `dump N`, `flags X N`
abbrev pub dump_effect : World → ℕ → List (List ℕ) → Effect
dump_effect w room messages = answered w (Messages (fitting room messages) (dump_fault room messages))

unfoldable pub effect : World → Command → Effect
effect w (Attach name kind type_number link) = attach_effect w name kind type_number link
effect w (AddAddress name address prefix cloning far) = add_address_effect w name address prefix cloning far
effect w (RemoveAddress name address) = remove_address_effect w address (find_addr name address w.interfaces)
effect w (Open id pid protocol) = open_effect w id pid protocol
effect w (Close id) = close_effect w id
effect w (Loopback id on) = loopback_effect w id on
effect w (Write id bytes) = write_effect w id bytes (pid_of id w.sockets)
effect w (Read id) = read_effect w id (messages_of id w.sockets)
effect w (Lost id) = lost_effect w (lost_of id w.sockets)
effect w (Packet destination) = packet_effect w destination
effect w (Redirect asked) = upshot_effect w (redirect asked w.interfaces w.table)
effect w (Losing destination) = upshot_effect w (losing destination w.table)
effect w (DumpSize flags) = dump_size_effect w flags
effect w (Dump flags room) = dump_effect w room (shown_of flags w.interfaces w.table)

-- ---- the step

-- the world that an effect leaves
abbrev pub world_after : Effect → World
world_after e = record { table = e.table; interfaces = e.interfaces; sockets = delivered_all e.told e.sockets }

pub record Stepped : Type 0 where
  pub world : World
  pub answer : Answer

-- the world and the answer after a command
abbrev pub stepped : World → Command → Stepped
stepped w c = let e = effect w c in record { world = world_after e; answer = e.answer }

-- what a write asks may want memory: a route is to be added or changed, and nothing speaks against it
abbrev pub asks_memory : World → Result Request Refusal → Bool
asks_memory w (Ok request) = makes_room w.interfaces w.table request
asks_memory w (Err r) = false

-- the command may want memory: it isn't refused for a reason that is found without any, and is none that never wants it
unfoldable pub takes_memory : World → Command → Bool
takes_memory w (Attach name kind type_number link) = is_none (attach_fault name w.interfaces)
takes_memory w (AddAddress name address prefix cloning far) = is_none (addr_fault name address far w.interfaces)
takes_memory w (RemoveAddress name address) = false
takes_memory w (Open id pid protocol) = is_none (listen_fault id w.sockets)
takes_memory w (Close id) = false
takes_memory w (Loopback id on) = false
takes_memory w (Write id bytes) = is_some (pid_of id w.sockets) && asks_memory w (request_of bytes)
takes_memory w (Read id) = false
takes_memory w (Lost id) = false
takes_memory w (Packet destination) = clones_for destination w.table
takes_memory w (Redirect asked) = true
takes_memory w (Losing destination) = false
takes_memory w (DumpSize flags) = false
takes_memory w (Dump flags room) = true

-- the answer says that there was no memory
abbrev pub lacks_memory : Answer → Bool
lacks_memory (Refused errno) = is_enobufs errno
lacks_memory answer = false

-- the machine's step: this answer and this world
abbrev pub IsStep : World → Command → Answer → World → Type 0
IsStep old command answer new = stepped old command ≡ record { world = new; answer = answer }

-- the machine's step; or, where the command may want memory, the answer is that there is none and the world is the
-- old one
abbrev pub Steps : World → Command → Answer → World → Type 0
Steps old command answer new =
    IsStep old command answer new
    ⊎ ((takes_memory old command ≡ true) × (answer ≡ Refused ENOBUFS) × (new ≡ old))

-- a step between two counts of how often memory was refused. The machine's, and it wasn't refused; or it was, the
-- command may want memory, the answer is that there is none, and the world is the old one
abbrev pub StepsCounted : World → Command → Answer → World → ℕ → ℕ → Type 0
StepsCounted old command answer new before after =
    (IsStep old command answer new × (after ≡ before))
    ⊎ ((takes_memory old command ≡ true) × (answer ≡ Refused ENOBUFS) × (new ≡ old) × (before < after))
