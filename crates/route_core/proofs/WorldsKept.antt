-- A step from a world leads to one, part by part and command by command.
use Rattle.std.proofs.Common.{lit≤, ◌≡◌, ℕ, ◌+◌, ◌<◌, ◌≤◌, ◌^◌, inl, inr, ◌||◌, Bool, true, false, cond, not, filter, List, [], ◌∷◌, ◌++◌, length, map, Option, Some, None, refl, sym, ap, ◌∙◌, subst, arith}
use Rattle.std.specs.Prelude.{Result, Ok, Err, IfSome, if◌then◌else◌, is_some, nat_le, bytes_eq, unwrap_or, ⊤}
use Rattle.std.specs.List.{AllByRecursion, IsDistinct, list_any}
use Rattle.std.proofs.lemmas.Bool.Decides.{nat_tests}
use Rattle.std.proofs.lemmas.List.Folds.{list_any-append}
use Rattle.sock_addrs.specs.First.{change_first}
use Rattle.sock_addrs.specs.Rules.{rule, first_fault, unless_fault}
use Rattle.sock_addrs.specs.declared.errno.Errno.{Errno}
use Rattle.sock_addrs.specs.declared.errno.Errno.TheVariants.{EEXIST, EMFILE}
use Rattle.sock_addrs.specs.declared.gate.Gate.TheVariants as gate
use Rattle.sock_addrs.proofs.FirstLemmas.{map-change_first}
use Rattle.if_addrs.specs.Facts.{facts_of}
use Rattle.if_addrs.specs.Interfaces.{Address, Interface, IsOf, added, addr_fault, address_of, attach_fault, attached, far_of, find_addr, has_name, has_number, has_numbered, kind_of, marked_routed, new_address, reference, with_address, with_one_more, without_addr}
use Rattle.if_addrs.specs.ReferenceLaws.{Lasts}
use Rattle.if_addrs.specs.declared.kind.Kind.{Kind}
use Rattle.if_addrs.specs.declared.kind.Kind.TheVariants as kinds
use Rattle.if_addrs.specs.declared.reference.Facts.{Facts}
use Rattle.if_addrs.specs.declared.reference.IfaRef.{IfaRef}
use Rattle.if_addrs.specs.declared.reference.IfaRef.TheVariants.{Inet}
use Rattle.if_addrs.proofs.Adding.{is_named}
use Rattle.if_addrs.proofs.Keeping.{from_some}
use Rattle.if_addrs.proofs.Networks.{last_is_greatest}
use Rattle.if_addrs.proofs.ReferenceLawsProved.{adding_lasts, attaching_lasts, marking_lasts, none_numbered, removing_lasts}
use Rattle.listeners.specs.Sockets.{Socket, after_delivery, closed_fault, delivered, emptied, has_id, AreBounded, listen_fault, looped, lost_of, messages_of, opened, pid_of, queued, taken, with_loopback, without}
use Rattle.listeners.specs.declared.limits.TheConstants.{MOST_QUEUED, MOST_SOCKETS}
use Rattle.listeners.proofs.SocketLawsProved.{bare_stays, closing_keeps_bound, delivering_keeps_bound, loopback_keeps_bound, reading_keeps_bound}
use Rattle.radix_tree.specs.Table.{entry_at, with_entry, without as without_pair}
use Rattle.radix_tree.specs.declared.entry.Entry.{Entry}
use Rattle.route_entries.specs.declared.route.Route.{Route}
use Rattle.route_ops.specs.Adding.{Adding, add}
use Rattle.route_ops.specs.Addressing.{address_entry, withdrawn}
use Rattle.route_ops.specs.Changing.{change, lock}
use Rattle.route_ops.specs.Deleting.{route_to_delete, route_to_show}
use Rattle.route_ops.specs.Looks.{Look, entry_with_one_more_use, look}
use Rattle.route_ops.specs.Losses.{losing}
use Rattle.route_ops.specs.Redirecting.{redirect}
use Rattle.route_ops.specs.Tables.{IsRouteOf, IsTableOf}
use Rattle.route_ops.proofs.TablesStay.{adding_stays, address_route_is_of, changing_stays, kept_stays, locking_stays, look_stays, losing_stays, redirect_stays, with_stays, without_stays}
use Rattle.route_core.specs.Commands.{Command}
use Rattle.route_core.specs.Effects.{request_effect}
use Rattle.route_core.specs.Requests.{Outcome, adding_outcome, delete_outcome, done_reply, get_outcome, lock_outcome, outcome_of}
use Rattle.route_core.specs.Step.{Effect, Stepped, announced, bring_route, done, effect, lost_effect, packet_by, read_effect, refused, remove_address_effect, remove_found, take_route, unless_refused, world_after, write_effect}
use Rattle.route_core.specs.Telling.{Told, delivered_all}
use Rattle.route_core.specs.World.{World}
use Rattle.route_core.specs.Worlds.{AreOpenOnce, EmptyIsWorld, IsInRange, IsWorld, StepsKeepWorlds}
use Rattle.route_core.specs.Writes.{message_rules, request_in}
use Rattle.route_core.specs.declared.command.Command.TheVariants.{Attach, AddAddress, RemoveAddress, Open, Close, Loopback, Write, Read, Lost, Packet, Redirect, Losing, DumpSize, Dump}
use Rattle.route_core.specs.declared.refusal.Refusal.{Refusal}
use Rattle.route_core.specs.declared.request.Request.{Request}
use Rattle.route_core.specs.declared.request.Request.TheVariants.{Add, Change, Delete, Get, Lock}
use Rattle.route_core.proofs.MessageEffect.{message_effect}
use Rattle.route_core.proofs.WritesInRange.{IsInRange as IsRequestInRange, request_is_in_range}

-- ---- the ids of sockets

abbrev ids : List Socket → List (List ℕ)
ids sockets = map (λ s. s.id) sockets

-- whatever changes no id
same_ids : (old new : List Socket) → ids new ≡ ids old → AreOpenOnce old → AreOpenOnce new
same_ids old new same h = subst (IsDistinct bytes_eq) (sym same) h

changed_ids : (p : Socket → Bool) (f : Socket → Socket) → ((s : Socket) → (f s).id ≡ s.id) → (sockets : List Socket)
    → AreOpenOnce sockets → AreOpenOnce (change_first p f sockets)
changed_ids p f same sockets h = same_ids sockets (change_first p f sockets)
    (map-change_first (λ (s : Socket). s.id) p f same sockets) h

heard_id : (message : List ℕ) (family : ℕ) (own : Option (List ℕ)) (s : Socket)
    → (after_delivery message family own s).id ≡ s.id
heard_id message family own s = ap (λ (t : Socket). t.id) (bare_stays message family own s)

delivered_ids : (message : List ℕ) (family : ℕ) (own : Option (List ℕ)) (sockets : List Socket)
    → ids (delivered message family own sockets) ≡ ids sockets
delivered_ids message family own [] = refl
delivered_ids message family own (s ∷ ss) = rw (heard_id message family own s, delivered_ids message family own ss) refl

all_delivered_ids : (ts : List Told) (sockets : List Socket) → ids (delivered_all ts sockets) ≡ ids sockets
all_delivered_ids [] sockets = refl
all_delivered_ids (t ∷ ts) sockets = all_delivered_ids ts (delivered t.message t.family t.own sockets)
    ∙ delivered_ids t.message t.family t.own sockets

-- a filter leaves each of them apart
all_left : (P : List ℕ → Type 0) (q : Socket → Bool) (sockets : List Socket) → AllByRecursion P (ids sockets)
    → AllByRecursion P (ids (filter q sockets))
all_left P q [] h = tt
all_left P q (s ∷ ss) h = elim (q s) as
    (λ b. AllByRecursion P (ids (cond b (s ∷ filter q ss) (filter q ss)))) [
      | true ↦
          (h.0, all_left P q ss h.1)
      | false ↦ all_left P q ss h.1
    ]

filtered_ids : (q : Socket → Bool) (sockets : List Socket) → AreOpenOnce sockets → AreOpenOnce (filter q sockets)
unfolding IsDistinct
filtered_ids q [] h = tt
filtered_ids q (s ∷ ss) h = elim (q s) as (λ b. IsDistinct bytes_eq (ids (cond b (s ∷ filter q ss) (filter q ss)))) [
  | true ↦ (all_left (λ y. bytes_eq s.id y ≡ false) q ss h.0, filtered_ids q ss h.1)
  | false ↦ filtered_ids q ss h.1
]

-- one more that is none of them
all_more : (P : List ℕ → Type 0) (sockets : List Socket) (s : Socket) → AllByRecursion P (ids sockets) → P s.id
    → AllByRecursion P (ids (sockets ++ s ∷ []))
all_more P [] s h p = (p, tt)
all_more P (x ∷ xs) s h p = (h.0, all_more P xs s h.1 p)

or_first : (a b : Bool) → (a || b) ≡ false → (a ≡ false) × (b ≡ false)
or_first true b h = absurd (cc)
or_first false b h = (refl, h)

opened_ids : (sockets : List Socket) (s : Socket) → AreOpenOnce sockets → list_any (has_id s.id) sockets ≡ false
    → AreOpenOnce (sockets ++ s ∷ [])
unfolding IsDistinct
opened_ids [] s h new = (tt, tt)
opened_ids (x ∷ xs) s h new =
    let other = or_first (has_id s.id x) (list_any (has_id s.id) xs) new in
    (all_more (λ y. bytes_eq x.id y ≡ false) xs s h.0 other.0, opened_ids xs s h.1 other.1)

-- ---- their queues

opened_bounded : (sockets : List Socket) (s : Socket) → AreBounded sockets → queued s ≤ MOST_QUEUED
    → AreBounded (sockets ++ s ∷ [])
opened_bounded [] s h fits = (fits, tt)
opened_bounded (x ∷ xs) s h fits = (h.0, opened_bounded xs s h.1 fits)

all_delivered_bounded : (ts : List Told) (sockets : List Socket) → AreBounded sockets
    → AreBounded (delivered_all ts sockets)
all_delivered_bounded [] sockets h = h
all_delivered_bounded (t ∷ ts) sockets h =
    all_delivered_bounded ts (delivered t.message t.family t.own sockets)
    (delivering_keeps_bound t.message t.family t.own sockets h)

-- ---- the parts of what an effect leaves, before its messages are told

-- it leaves a world
abbrev LeavesWorld : Effect → Type 0
LeavesWorld e = IsWorld (record { table = e.table; interfaces = e.interfaces; sockets = e.sockets })

told_world : (e : Effect) → LeavesWorld e → IsWorld (world_after e)
told_world e h = record {
  table = h.table;
  numbers = h.numbers;
  sockets = same_ids e.sockets (delivered_all e.told e.sockets) (all_delivered_ids e.told e.sockets) h.sockets;
  queues = all_delivered_bounded e.told e.sockets h.queues;
}

-- nothing changes but the sockets
with_sockets : (w : World) (sockets : List Socket) → IsWorld w → AreOpenOnce sockets → AreBounded sockets
    → IsWorld (record w { sockets = sockets })
with_sockets w sockets h once bounded =
    record { table = h.table; numbers = h.numbers; sockets = once; queues = bounded }

-- nothing changes but the interfaces, and their addresses last
with_interfaces : (w : World) (interfaces : List Interface) → IsWorld w → Lasts w.interfaces interfaces
    → IsWorld (record w { interfaces = interfaces })
with_interfaces w interfaces h lasts =
    record {
      table = kept_stays w.interfaces interfaces w.table lasts.keeps h.table;
      numbers = lasts.numbers;
      sockets = h.sockets;
      queues = h.queues;
    }

-- nothing changes but the table
with_table : (w : World) (table : List (Entry Route)) → IsWorld w → IsTableOf w.interfaces table
    → IsWorld (record w { table = table })
with_table w table h is =
    record { table = is; numbers = h.numbers; sockets = h.sockets; queues = h.queues }

-- refused, or else the effect
leaves_unless : (w : World) (fault : Option Errno) (e : Effect) → IsWorld w → (fault ≡ None → LeavesWorld e)
    → LeavesWorld (unless_refused w fault e)
leaves_unless w None e h leaves = leaves refl
leaves_unless w (Some errno) e h leaves = h

-- the address that was added is one of the interfaces
own_number : (a : Address) → has_number a.number a ≡ true
own_number a = grind (arith, nat_tests)

or_true : (b : Bool) → (b || true) ≡ true
or_true true = refl
or_true false = refl

pub has_new : (a : Address) (i : Interface) → has_numbered a.number (with_one_more a i) ≡ true
has_new a i = list_any-append (has_number a.number) i.addresses (a ∷ [])
    ∙ rw (own_number a) (or_true (has_numbered a.number i))

one_has_new : (p : Interface → Bool) (a : Address) (is : List Interface) → list_any p is ≡ true
    → list_any (has_numbered a.number) (change_first p (with_one_more a) is) ≡ true
one_has_new p a [] h = cc
one_has_new p a (i ∷ is) h =
    elim (p i) as (λ b. (b || list_any p is) ≡ true
    → list_any (has_numbered a.number)
    (if b then with_one_more a i ∷ is else i ∷ change_first p (with_one_more a) is) ≡ true) [
      | true ↦ λ k. rw (has_new a i) refl
      | false ↦ λ k. rw (one_has_new p a is k) (or_true (has_numbered a.number i))
    ] h

added_is_of : (name : List ℕ) (address prefix : ℕ) (cloning : Bool) (far : Option ℕ) (is : List Interface)
    → addr_fault name address far is ≡ None
    → IsOf (Inet (added is + 1)) (with_address name address prefix cloning far is)
added_is_of name address prefix cloning far is free =
    let a = new_address (added is + 1) (kind_of name is) address prefix cloning far in
    from_some (added is + 1) (with_address name address prefix cloning far is)
    (one_has_new (has_name name) a is (is_named name address far is free))

-- its other end has an address
other_end : (far : Option ℕ) (address : ℕ) → address < 2 ^ 32 → IfSome far (λ other. other < 2 ^ 32)
    → unwrap_or far address < 2 ^ 32
other_end None address h other = h
other_end (Some x) address h other = other

far_below : (kind : Kind) (prefix address : ℕ) (far : Option ℕ) → address < 2 ^ 32 → prefix ≤ 32
    → IfSome far (λ other. other < 2 ^ 32) → far_of kind prefix address far < 2 ^ 32
far_below kinds.Broadcast prefix address far h p f = (last_is_greatest prefix address p h).is_address
far_below kinds.Loopback prefix address far h p f = h
far_below kinds.PointToPoint prefix address far h p f = other_end far address h f

-- ---- command by command

-- `addr`
leaves_brought : (w : World) (interfaces : List Interface) (address : ℕ) (facts : Facts) (r : Entry Route) → IsWorld w
    → Lasts w.interfaces interfaces → IsRouteOf interfaces r → LeavesWorld (bring_route w interfaces address facts r)
leaves_brought w interfaces address facts r h lasts route =
    let stays = with_interfaces w interfaces h lasts in
    let brought = with_table (record w { interfaces = interfaces }) (with_entry r w.table) stays
    (with_stays interfaces w.table r stays.table route) in
    let marked = marking_lasts r.value.ifa interfaces lasts.numbers in
    elim (is_some (entry_at r.key r.rank w.table)) as
    (λ b. LeavesWorld (if b then record (refused w EEXIST) { interfaces = interfaces } else record (done w) {
      table = with_entry r w.table;
      interfaces = marked_routed r.value.ifa interfaces;
      told = announced interfaces address facts r;
    })) [
      | true ↦ stays
      | false ↦ with_interfaces (record w { table = with_entry r w.table; interfaces = interfaces })
          (marked_routed r.value.ifa interfaces) brought marked
    ]

leaves_address : (w : World) (name : List ℕ) (address prefix : ℕ) (cloning : Bool) (far : Option ℕ) → IsWorld w
    → address < 2 ^ 32 → prefix ≤ 32 → IfSome far (λ other. other < 2 ^ 32)
    → addr_fault name address far w.interfaces ≡ None
    → let a = new_address (added w.interfaces + 1) (kind_of name w.interfaces) address prefix cloning far in
    let interfaces = with_address name address prefix cloning far w.interfaces in
    LeavesWorld (bring_route w interfaces address (facts_of a) (address_entry (reference a) address (facts_of a)))
leaves_address w name address prefix cloning far h below p other free =
    let kind = kind_of name w.interfaces in
    let a = new_address (added w.interfaces + 1) kind address prefix cloning far in
    let interfaces = with_address name address prefix cloning far w.interfaces in
    leaves_brought w interfaces address (facts_of a) (address_entry (reference a) address (facts_of a)) h
    (adding_lasts name address prefix cloning far w.interfaces h.numbers free)
    (address_route_is_of (reference a) address (facts_of a) interfaces
    (added_is_of name address prefix cloning far w.interfaces free) below p
    (far_below kind prefix address far below p other))

-- `unaddr`
leaves_taken : (w : World) (ifa : IfaRef) (address : ℕ) (facts : Facts) (r : Option (Entry Route)) → IsWorld w
    → LeavesWorld (take_route w ifa address facts r)
leaves_taken w ifa address facts None h =
    with_interfaces w (without_addr ifa w.interfaces) h (removing_lasts ifa w.interfaces h.numbers)
leaves_taken w ifa address facts (Some r) h =
    let table = without_pair r.key r.rank w.table in
    with_interfaces (record w { table = table }) (without_addr ifa w.interfaces)
    (with_table w table h (without_stays w.interfaces w.table r.key r.rank h.table))
    (removing_lasts ifa w.interfaces h.numbers)

leaves_found : (w : World) (ifa : IfaRef) (address : ℕ) (a : Option Address) → IsWorld w
    → LeavesWorld (remove_found w ifa address a)
leaves_found w ifa address None h = h
leaves_found w ifa address (Some a) h =
    leaves_taken w ifa address (facts_of a) (withdrawn ifa address (facts_of a) w.table) h

leaves_removed : (w : World) (address : ℕ) (ifa : Result IfaRef Errno) → IsWorld w
    → LeavesWorld (remove_address_effect w address ifa)
leaves_removed w address (Err errno) h = h
leaves_removed w address (Ok ifa) h = leaves_found w ifa address (address_of ifa w.interfaces) h

-- a write: its request leaves a table of the interfaces
abbrev TableIfOk : List Interface → Result Outcome Errno → Type 0
TableIfOk interfaces (Ok o) = IsTableOf interfaces o.table
TableIfOk interfaces (Err errno) = ⊤

adding_leaves : (is : List Interface) (reply : List ℕ) (r : Result Adding Errno)
    → ((it : Adding) → r ≡ Ok it → IsTableOf is it.table) → TableIfOk is (adding_outcome reply r)
adding_leaves is reply (Err errno) stays = tt
adding_leaves is reply (Ok it) stays = stays it refl

delete_leaves : (is : List Interface) (table : List (Entry Route)) (reply : List ℕ) (r : Option (Entry Route))
    → IsTableOf is table → TableIfOk is (delete_outcome table reply r)
delete_leaves is table reply None h = tt
delete_leaves is table reply (Some r) h = without_stays is table r.key r.rank h

lock_leaves : (is : List Interface) (table : List (Entry Route)) (reply : List ℕ) (r : Result (Entry Route) Errno)
    → ((x : Entry Route) → r ≡ Ok x → IsTableOf is (with_entry x table)) → TableIfOk is (lock_outcome table reply r)
lock_leaves is table reply (Err errno) stays = tt
lock_leaves is table reply (Ok x) stays = stays x refl

get_leaves : (is : List Interface) (table : List (Entry Route)) (pid : ℕ) (m : List ℕ) (shows : Bool)
    (r : Result (Entry Route) Errno) → IsTableOf is table → TableIfOk is (get_outcome is table pid m shows r)
get_leaves is table pid m shows (Err errno) h = tt
get_leaves is table pid m shows (Ok r) h = h

outcome_leaves : (w : World) (pid : ℕ) (m : List ℕ) (request : Request) → IsWorld w → IsRequestInRange request
    → TableIfOk w.interfaces (outcome_of w.interfaces w.table pid m request)
outcome_leaves w pid m (Add a) h range =
    adding_leaves w.interfaces (done_reply pid m) (add a w.interfaces w.table)
    (λ it is. adding_stays a w.interfaces w.table it h.numbers h.table range is)
outcome_leaves w pid m (Delete key netmask flags) h range =
    delete_leaves w.interfaces w.table (done_reply pid m) (route_to_delete key netmask flags w.table) h.table
outcome_leaves w pid m (Change a) h range =
    adding_leaves w.interfaces (done_reply pid m) (change a w.interfaces w.table)
    (λ it is. changing_stays a w.interfaces w.table it h.numbers h.table range is)
outcome_leaves w pid m (Lock destination netmask inits locks) h range =
    lock_leaves w.interfaces w.table (done_reply pid m) (lock destination netmask inits locks w.table)
    (λ x is. locking_stays destination netmask inits locks w.interfaces w.table x h.table is)
outcome_leaves w pid m (Get destination shows) h range =
    get_leaves w.interfaces w.table pid m shows (route_to_show destination w.table) h.table

leaves_outcome : (w : World) (id : List ℕ) (pid : ℕ) (m : List ℕ) (outcome : Result Outcome Errno) → IsWorld w
    → TableIfOk w.interfaces outcome → LeavesWorld (request_effect w id pid m outcome)
leaves_outcome w id pid m (Ok o) h leaves = with_table w o.table h leaves
leaves_outcome w id pid m (Err errno) h leaves = h

leaves_request : (w : World) (id : List ℕ) (pid : ℕ) (m : List ℕ) (fault : Option Refusal) → IsWorld w
    → AllByRecursion (λ b. b < 256) m → LeavesWorld (message_effect w id pid m (unless_fault fault (request_in m)))
leaves_request w id pid m None h bytes =
    leaves_outcome w id pid m (outcome_of w.interfaces w.table pid m (request_in m)) h
    (outcome_leaves w pid m (request_in m) h (request_is_in_range m bytes))
leaves_request w id pid m (Some r) h bytes = h

leaves_write : (w : World) (id m : List ℕ) (pid : Option ℕ) → IsWorld w → AllByRecursion (λ b. b < 256) m
    → LeavesWorld (write_effect w id m pid)
leaves_write w id m None h bytes = h
leaves_write w id m (Some pid) h bytes = leaves_request w id pid m (first_fault (message_rules m)) h bytes

-- `read`
leaves_read : (w : World) (id : List ℕ) (messages : Option (List (List ℕ))) → IsWorld w
    → LeavesWorld (read_effect w id messages)
leaves_read w id None h = h
leaves_read w id (Some messages) h =
    with_sockets w (taken id w.sockets) h (changed_ids (has_id id) emptied (λ s. refl) w.sockets h.sockets)
    (reading_keeps_bound id w.sockets h.queues)

-- `lost`
leaves_lost : (w : World) (count : Option ℕ) → IsWorld w → LeavesWorld (lost_effect w count)
leaves_lost w None h = h
leaves_lost w (Some count) h = h

-- `packet`
counted_is : (interfaces : List Interface) (r : Entry Route) → IsRouteOf interfaces r
    → IsRouteOf interfaces (entry_with_one_more_use r)
counted_is interfaces r h = record {
  pair = record { rank = h.pair.rank; address = h.pair.address; key = h.pair.key };
  gateway = h.gateway;
  genmask = h.genmask;
  ifa = h.ifa;
}

leaves_packet : (w : World) (it : Look) (answer : Option (Entry Route)) → IsWorld w → IsTableOf w.interfaces it.table
    → IfSome answer (IsRouteOf w.interfaces) → LeavesWorld (packet_by w it answer)
leaves_packet w it None h is route = with_table w it.table h is
leaves_packet w it (Some r) h is route =
    with_table w (with_entry (entry_with_one_more_use r) it.table) h
    (with_stays w.interfaces it.table (entry_with_one_more_use r) is (counted_is w.interfaces r route))

first_passed : {F : Type 0} (a b : Bool) (x y : F) → first_fault (rule a x ∷ rule b y ∷ []) ≡ None → a ≡ false
first_passed true b x y h = cc
first_passed false b x y h = refl

leaves_world : (w : World) (c : Command) → IsWorld w → IsInRange c → LeavesWorld (effect w c)
unfolding effect
leaves_world w (Attach name kind type_number link) h in_range =
    leaves_unless w (attach_fault name w.interfaces) _ h
    (λ free. with_interfaces w (w.interfaces ++ attached name kind type_number link ∷ []) h
    (attaching_lasts name kind type_number link w.interfaces h.numbers))
leaves_world w (AddAddress name address prefix cloning far) h in_range =
    leaves_unless w (addr_fault name address far w.interfaces) _ h
    (leaves_address w name address prefix cloning far h in_range.0 in_range.1 in_range.2)
leaves_world w (RemoveAddress name address) h in_range =
    leaves_removed w address (find_addr name address w.interfaces) h
leaves_world w (Open id pid protocol) h in_range =
    leaves_unless w (listen_fault id w.sockets) _ h
    (λ free. with_sockets w (w.sockets ++ opened id pid protocol ∷ []) h
    (opened_ids w.sockets (opened id pid protocol) h.sockets
    (first_passed (list_any (has_id id) w.sockets) (nat_le MOST_SOCKETS (length w.sockets)) EEXIST EMFILE free))
    (opened_bounded w.sockets (opened id pid protocol) h.queues (lit≤ tt)))
leaves_world w (Close id) h in_range =
    leaves_unless w (closed_fault id w.sockets) _ h
    (λ free. with_sockets w (without id w.sockets) h (filtered_ids (λ s. not (has_id id s)) w.sockets h.sockets)
    (closing_keeps_bound id w.sockets h.queues))
leaves_world w (Loopback id on) h in_range =
    leaves_unless w (closed_fault id w.sockets) _ h
    (λ free. with_sockets w (with_loopback id on w.sockets) h
    (changed_ids (has_id id) (looped on) (λ s. refl) w.sockets h.sockets)
    (loopback_keeps_bound id on w.sockets h.queues))
leaves_world w (Write id m) h in_range = leaves_write w id m (pid_of id w.sockets) h in_range
leaves_world w (Read id) h in_range = leaves_read w id (messages_of id w.sockets) h
leaves_world w (Lost id) h in_range = leaves_lost w (lost_of id w.sockets) h
leaves_world w (Packet destination) h in_range =
    let it = look true (gate.Inet destination) w.table in
    let stays = look_stays true (gate.Inet destination) w.interfaces w.table h.table in_range in
    leaves_packet w it it.answer h stays.0 stays.1
leaves_world w (Redirect asked) h in_range =
    with_table w (redirect asked w.interfaces w.table).table h
    (redirect_stays asked w.interfaces w.table h.numbers h.table in_range.0 in_range.1)
leaves_world w (Losing destination) h in_range =
    with_table w (losing destination w.table).table h (losing_stays destination w.interfaces w.table h.table)
leaves_world w (DumpSize flags) h in_range = h
leaves_world w (Dump flags room) h in_range = h

-- ---- the step

pub empty_is_world : EmptyIsWorld
unfolding IsDistinct
empty_is_world = record { table = record { order = tt; routes = tt }; numbers = none_numbered; sockets = tt; queues = tt }

pub steps_keep_worlds : StepsKeepWorlds
steps_keep_worlds old c answer new h in_range (inl is) =
    subst IsWorld (ap (λ (s : Stepped). s.world) is) (told_world (effect old c) (leaves_world old c h in_range))
steps_keep_worlds old c answer new h in_range (inr same) = subst IsWorld (sym same.2) h
