-- How little one step brings, command by command.
use Rattle.std.proofs.Common.{◌≡◌, ℕ, ◌+◌, ◌≤◌, Bool, true, false, List, [], ◌∷◌, length, map, Option, Some, None, inl, inr, refl, ap, subst, arith, length-append}
use Rattle.std.specs.Prelude.{IfSome, Result, Ok, Err, if◌then◌else◌, is_some}
use Rattle.std.specs.Option.{option_map_or}
use Rattle.std.proofs.lemmas.List.{length-map}
use Rattle.sock_addrs.specs.declared.errno.Errno.{Errno}
use Rattle.sock_addrs.specs.declared.errno.Errno.TheVariants.{EEXIST}
use Rattle.sock_addrs.specs.declared.families.TheConstants.{AF_INET}
use Rattle.sock_addrs.specs.declared.gate.Gate.TheVariants as gate
use Rattle.if_addrs.specs.Facts.{facts_of}
use Rattle.if_addrs.specs.Interfaces.{Address, Interface, added, addr_fault, address_of, attach_fault, find_addr, kind_of, marked_routed, new_address, reference, with_address}
use Rattle.if_addrs.specs.declared.reference.Facts.{Facts}
use Rattle.if_addrs.specs.declared.reference.IfaRef.{IfaRef}
use Rattle.listeners.specs.Sockets.{closed_fault, listen_fault, lost_of, messages_of, pid_of}
use Rattle.radix_tree.specs.Table.{entry_at, with_entry}
use Rattle.radix_tree.specs.declared.entry.Entry.{Entry}
use Rattle.route_entries.specs.declared.route.Route.{Route}
use Rattle.route_ops.specs.Adding.{Adding, add}
use Rattle.route_ops.specs.Addressing.{address_entry, withdrawn}
use Rattle.route_ops.specs.Bringing.{Brings}
use Rattle.route_ops.specs.Changing.{change, lock}
use Rattle.route_ops.specs.Deleting.{route_to_delete, route_to_show}
use Rattle.route_ops.specs.Looks.{Look, entry_with_one_more_use, look}
use Rattle.route_ops.specs.Losses.{losing}
use Rattle.route_ops.specs.Redirecting.{redirect}
use Rattle.route_ops.specs.Upshot.{Upshot}
use Rattle.route_ops.specs.Standing.{brought}
use Rattle.route_ops.specs.declared.notice.Notice.{Notice}
use Rattle.route_ops.proofs.AnswerThere.{answer_is_there}
use Rattle.route_ops.proofs.Bringing.{none_less, none_more, none_own, one_more}
use Rattle.route_ops.proofs.Few.{adding_brings_two, changing_brings_one, deep_look_brings_two, locking_brings_none, losing_brings_none, redirect_brings_two}
use Rattle.route_core.specs.Commands.{Command}
use Rattle.route_core.specs.Effects.{request_effect}
use Rattle.route_core.specs.Few.{EffectsAreFew, IsFew, StepsBringFew}
use Rattle.route_core.specs.Messages.{notice_told}
use Rattle.route_core.specs.Requests.{Outcome, adding_outcome, delete_outcome, done_reply, get_outcome, lock_outcome, outcome_of}
use Rattle.route_core.specs.Step.{Effect, Stepped, Steps, announced, bring_route, done, effect, lost_effect, on_table, packet_by, read_effect, refused, refused_write, remove_address_effect, remove_found, take_route, unless_refused, upshot_effect, write_effect}
use Rattle.route_core.specs.Telling.{told}
use Rattle.route_core.specs.World.{World}
use Rattle.route_core.specs.declared.answer.Answer.{Answer}
use Rattle.route_core.specs.Writes.{refused_reply, request_of}
use Rattle.route_core.specs.declared.command.Command.TheVariants.{Attach, AddAddress, RemoveAddress, Open, Close, Loopback, Write, Read, Lost, Packet, Redirect, Losing, DumpSize, Dump}
use Rattle.route_core.specs.declared.refusal.Refusal.{Refusal}
use Rattle.route_core.specs.declared.request.Request.{Request}
use Rattle.route_core.specs.declared.request.Request.TheVariants.{Add, Change, Delete, Get, Lock}
use Rattle.route_core.proofs.MessageEffect.{message_effect}

-- the table stays, and two messages are told at most
few_told : (w : World) (e : Effect) → e.table ≡ w.table → length e.told ≤ 2 → IsFew w e
few_told w e same few = record { routes = rw same (omega (arith, none_own w.table)); messages = few }

few_unless : (w : World) (fault : Option Errno) (e : Effect) → IsFew w e → IsFew w (unless_refused w fault e)
few_unless w None e few = few
few_unless w (Some errno) e few = few_told w (refused w errno) refl (omega arith)

-- notices are as many messages
as_many : (ns : List Notice) → length (map notice_told ns) ≡ length ns
as_many ns = length-map ns notice_told

-- `addr`
few_brought : (w : World) (interfaces : List Interface) (address : ℕ) (facts : Facts) (r : Entry Route)
    → IsFew w (bring_route w interfaces address facts r)
few_brought w interfaces address facts r =
    elim (is_some (entry_at r.key r.rank w.table)) as
    (λ b. IsFew w (if b then record (refused w EEXIST) { interfaces = interfaces } else record (done w) {
      table = with_entry r w.table;
      interfaces = marked_routed r.value.ifa interfaces;
      told = announced interfaces address facts r;
    })) [
      | true ↦ few_told w (record (refused w EEXIST) { interfaces = interfaces }) refl (omega arith)
      | false ↦ record { routes = omega (arith, one_more w.table w.table r, none_own w.table); messages = omega arith }
    ]

-- `unaddr`
few_taken : (w : World) (ifa : IfaRef) (address : ℕ) (facts : Facts) (r : Option (Entry Route))
    → IsFew w (take_route w ifa address facts r)
few_taken w ifa address facts None = few_told w (take_route w ifa address facts None) refl (omega arith)
few_taken w ifa address facts (Some r) =
    record { routes = omega (arith, none_less w.table w.table r.key r.rank, none_own w.table); messages = omega arith }

few_found : (w : World) (ifa : IfaRef) (address : ℕ) (a : Option Address) → IsFew w (remove_found w ifa address a)
few_found w ifa address None = few_told w (done w) refl (omega arith)
few_found w ifa address (Some a) = few_taken w ifa address (facts_of a) (withdrawn ifa address (facts_of a) w.table)

few_removed : (w : World) (address : ℕ) (ifa : Result IfaRef Errno) → IsFew w (remove_address_effect w address ifa)
few_removed w address (Err errno) = few_told w (refused w errno) refl (omega arith)
few_removed w address (Ok ifa) = few_found w ifa address (address_of ifa w.interfaces)

-- a write: its request brings two routes at most, and tells one message at most before the reply
record IsFewOutcome (old : List (Entry Route)) (o : Outcome) : Type 0 where
  few_routes : brought old o.table ≤ 2
  few_notices : length o.notices ≤ 1

abbrev FewIfOk : List (Entry Route) → Result Outcome Errno → Type 0
FewIfOk old (Ok o) = IsFewOutcome old o
FewIfOk old (Err errno) = Unit {0}

adding_few : (table : List (Entry Route)) (reply : List ℕ) (r : Result Adding Errno)
    → ((it : Adding) → r ≡ Ok it → Brings 2 1 table it.table it.messages) → FewIfOk table (adding_outcome reply r)
adding_few table reply (Err errno) brings = tt
adding_few table reply (Ok it) brings =
    let few = brings it refl in record { few_routes = few.few_routes; few_notices = few.few_messages }

delete_few : (table : List (Entry Route)) (reply : List ℕ) (r : Option (Entry Route))
    → FewIfOk table (delete_outcome table reply r)
delete_few table reply None = tt
delete_few table reply (Some r) =
    record { few_routes = omega (arith, none_less table table r.key r.rank, none_own table); few_notices = omega arith }

lock_few : (table : List (Entry Route)) (reply : List ℕ) (r : Result (Entry Route) Errno)
    → ((x : Entry Route) → r ≡ Ok x → brought table (with_entry x table) ≡ 0)
    → FewIfOk table (lock_outcome table reply r)
lock_few table reply (Err errno) none = tt
lock_few table reply (Ok x) none = record { few_routes = omega (arith, none x refl); few_notices = omega arith }

get_few : (interfaces : List Interface) (table : List (Entry Route)) (pid : ℕ) (m : List ℕ) (shows : Bool)
    (r : Result (Entry Route) Errno) → FewIfOk table (get_outcome interfaces table pid m shows r)
get_few interfaces table pid m shows (Err errno) = tt
get_few interfaces table pid m shows (Ok r) =
    record { few_routes = omega (arith, none_own table); few_notices = omega arith }

more : (old new : List (Entry Route)) (told : List Notice) → Brings 1 1 old new told → Brings 2 1 old new told
more old new told few = record { few_routes = omega (arith, few.few_routes); few_messages = few.few_messages }

outcome_few : (interfaces : List Interface) (table : List (Entry Route)) (pid : ℕ) (m : List ℕ) (request : Request)
    → FewIfOk table (outcome_of interfaces table pid m request)
outcome_few interfaces table pid m (Add a) =
    adding_few table (done_reply pid m) (add a interfaces table) (adding_brings_two a interfaces table)
outcome_few interfaces table pid m (Delete key netmask flags) =
    delete_few table (done_reply pid m) (route_to_delete key netmask flags table)
outcome_few interfaces table pid m (Change a) =
    adding_few table (done_reply pid m) (change a interfaces table)
    (λ it is. more table it.table it.messages (changing_brings_one a interfaces table it is))
outcome_few interfaces table pid m (Lock destination netmask inits locks) =
    lock_few table (done_reply pid m) (lock destination netmask inits locks table)
    (locking_brings_none destination netmask inits locks table)
outcome_few interfaces table pid m (Get destination shows) =
    get_few interfaces table pid m shows (route_to_show destination table)

few_refused : (w : World) (id : List ℕ) (pid : ℕ) (m : List ℕ) (r : Refusal) (family : Option ℕ)
    → length (option_map_or (λ f. told (refused_reply r.errno pid m) f (Some id) ∷ []) family []) ≤ 2
few_refused w id pid m r None = omega arith
few_refused w id pid m r (Some f) = omega arith

few_refused_write : (w : World) (id : List ℕ) (pid : ℕ) (m : List ℕ) (r : Refusal)
    → IsFew w (refused_write w id pid m r)
few_refused_write w id pid m r = few_told w (refused_write w id pid m r) refl (few_refused w id pid m r r.family)

few_outcome : (w : World) (id : List ℕ) (pid : ℕ) (m : List ℕ) (outcome : Result Outcome Errno)
    → FewIfOk w.table outcome
    → IsFew w (request_effect w id pid m outcome)
few_outcome w id pid m (Ok o) few = record {
  routes = few.few_routes;
  messages = omega (
    arith,
    length-append (map notice_told o.notices) (told o.reply AF_INET (Some id) ∷ []),
    as_many o.notices,
    few.few_notices,
  );
}
few_outcome w id pid m (Err errno) few =
    few_refused_write w id pid m (record { errno = errno; family = Some AF_INET })

few_request : (w : World) (id : List ℕ) (pid : ℕ) (m : List ℕ) (request : Result Request Refusal)
    → IsFew w (message_effect w id pid m request)
few_request w id pid m (Ok request) =
    few_outcome w id pid m (outcome_of w.interfaces w.table pid m request)
    (outcome_few w.interfaces w.table pid m request)
few_request w id pid m (Err r) = few_refused_write w id pid m r

few_write : (w : World) (id m : List ℕ) (pid : Option ℕ) → IsFew w (write_effect w id m pid)
few_write w id m None = few_told w (write_effect w id m None) refl (omega arith)
few_write w id m (Some pid) = few_request w id pid m (request_of m)

-- `read`
few_read : (w : World) (id : List ℕ) (messages : Option (List (List ℕ))) → IsFew w (read_effect w id messages)
few_read w id None = few_told w (read_effect w id None) refl (omega arith)
few_read w id (Some messages) = few_told w (read_effect w id (Some messages)) refl (omega arith)

-- `lost`
few_lost : (w : World) (count : Option ℕ) → IsFew w (lost_effect w count)
few_lost w None = few_told w (lost_effect w None) refl (omega arith)
few_lost w (Some count) = few_told w (lost_effect w (Some count)) refl (omega arith)

-- ---- commands on the table

few_on_table : (w : World) (table : List (Entry Route)) (notices : List Notice) (answer : Answer)
    → Brings 2 2 w.table table notices → IsFew w (on_table w table notices answer)
few_on_table w table notices answer few =
    record { routes = few.few_routes; messages = omega (arith, as_many notices, few.few_messages) }

-- `packet`: counting its route brings none, since that is there
few_packet : (w : World) (it : Look) (answer : Option (Entry Route)) → Brings 2 2 w.table it.table it.messages
    → IfSome answer (λ r. is_some (entry_at r.key r.rank it.table) ≡ true) → IsFew w (packet_by w it answer)
few_packet w it None few there = few_on_table w it.table it.messages _ few
few_packet w it (Some r) few there =
    few_on_table w (with_entry (entry_with_one_more_use r) it.table) it.messages _ (record {
      few_routes = omega (arith, none_more w.table it.table (entry_with_one_more_use r) there, few.few_routes);
      few_messages = few.few_messages;
    })

-- `redirect`, `losing`
few_upshot : (w : World) (it : Upshot) → Brings 2 2 w.table it.table it.messages → IsFew w (upshot_effect w it)
few_upshot w it few = few_on_table w it.table it.messages _ few

two_at_most : (routes : ℕ) (old new : List (Entry Route)) (ns : List Notice) → routes ≤ 2
    → Brings routes 1 old new ns → Brings 2 2 old new ns
two_at_most routes old new ns few brings = record {
  few_routes = omega (arith, few, brings.few_routes);
  few_messages = omega (arith, brings.few_messages);
}

pub effects_are_few : EffectsAreFew
unfolding effect
effects_are_few w (Attach name kind type_number link) =
    few_unless w (attach_fault name w.interfaces) _ (few_told w _ refl (omega arith))
effects_are_few w (AddAddress name address prefix cloning far) =
    let a = new_address (added w.interfaces + 1) (kind_of name w.interfaces) address prefix cloning far in
    let interfaces = with_address name address prefix cloning far w.interfaces in
    let r = address_entry (reference a) address (facts_of a) in
    few_unless w (addr_fault name address far w.interfaces) (bring_route w interfaces address (facts_of a) r)
    (few_brought w interfaces address (facts_of a) r)
effects_are_few w (RemoveAddress name address) = few_removed w address (find_addr name address w.interfaces)
effects_are_few w (Open id pid protocol) =
    few_unless w (listen_fault id w.sockets) _ (few_told w _ refl (omega arith))
effects_are_few w (Close id) = few_unless w (closed_fault id w.sockets) _ (few_told w _ refl (omega arith))
effects_are_few w (Loopback id on) = few_unless w (closed_fault id w.sockets) _ (few_told w _ refl (omega arith))
effects_are_few w (Write id m) = few_write w id m (pid_of id w.sockets)
effects_are_few w (Read id) = few_read w id (messages_of id w.sockets)
effects_are_few w (Lost id) = few_lost w (lost_of id w.sockets)
effects_are_few w (Packet destination) =
    let about = gate.Inet destination in
    let it = look true about w.table in
    few_packet w it it.answer (deep_look_brings_two about w.table) (answer_is_there true about w.table)
effects_are_few w (Redirect asked) =
    few_upshot w (redirect asked w.interfaces w.table) (redirect_brings_two asked w.interfaces w.table)
effects_are_few w (Losing destination) =
    let it = losing destination w.table in
    few_upshot w it (two_at_most 0 w.table it.table it.messages (omega arith) (losing_brings_none destination w.table))
effects_are_few w (DumpSize flags) = few_told w _ refl (omega arith)
effects_are_few w (Dump flags room) = few_told w _ refl (omega arith)

-- ---- the step

pub steps_bring_few : StepsBringFew
steps_bring_few old c answer new (inl is) =
    subst (λ (t : List (Entry Route)). brought old.table t ≤ 2) (ap (λ (s : Stepped). s.world.table) is)
    (effects_are_few old c).routes
steps_bring_few old c answer new (inr same) = rw same.2 (omega (arith, none_own old.table))

pub routes_are_few : (old : World) (c : Command) (answer : Answer) (new : World) → Steps old c answer new
    → brought old.table new.table ≤ 2
routes_are_few = steps_bring_few

pub messages_are_few : (w : World) (c : Command) → length (effect w c).told ≤ 2
messages_are_few w c = (effects_are_few w c).messages
