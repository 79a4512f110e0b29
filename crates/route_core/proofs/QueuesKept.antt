-- What waits for a socket, by what it met in the machine's steps.
use Rattle.std.proofs.Common.{◌≡◌, ℕ, ◌≤◌, Bool, true, false, cond, List, [], ◌∷◌, ◌++◌, length, map, nat_le, Option, Some, None, is_some, inl, inr, option_map, bytes_eq, refl, sym, ap, subst, ◌∙◌, if◌then◌else◌}
use Rattle.std.specs.Prelude.{Result, Ok, Err}
use Rattle.std.specs.List.{find, list_any}
use Rattle.std.specs.Option.{option_map_or, option_or}
use Rattle.std.proofs.lemmas.List.Folds.{find-append}
use Rattle.std.proofs.lemmas.Slice.Eq.{bytes_eq-Decides}
use Rattle.sock_addrs.specs.First.{change_first}
use Rattle.sock_addrs.specs.Rules.{rule, first_fault}
use Rattle.sock_addrs.specs.declared.errno.Errno.{Errno}
use Rattle.sock_addrs.specs.declared.errno.Errno.TheVariants.{EEXIST, EMFILE, ENOBUFS}
use Rattle.sock_addrs.specs.declared.gate.Gate.TheVariants as gate
use Rattle.sock_addrs.proofs.FirstLemmas.{found}
use Rattle.if_addrs.specs.Facts.{facts_of}
use Rattle.if_addrs.specs.Interfaces.{Address, addr_fault, address_of, attach_fault, find_addr}
use Rattle.if_addrs.specs.declared.reference.Facts.{Facts}
use Rattle.if_addrs.specs.declared.reference.IfaRef.{IfaRef}
use Rattle.listeners.specs.Kept.{Event, Kept, Read as HasRead, after_deliveries, after_events, heard_of, heard_since, IsSublist, kept, nothing_kept}
use Rattle.listeners.specs.Queue.{joined}
use Rattle.listeners.specs.Sockets.{Socket, after_delivery, closed_fault, delivered, emptied, has_id, listen_fault, looped, messages_of, lost_of, opened, pid_of, socket_of, with_loopback}
use Rattle.listeners.specs.declared.limits.TheConstants.{MOST_QUEUED, MOST_SOCKETS}
use Rattle.listeners.proofs.KeptProved.{deliveries_are_events, events_in_parts, kept_are_heard, kept_is_bounded}
use Rattle.listeners.proofs.SocketLawsProved.{bare_stays, closing_disturbs_no_other, loopback_disturbs_no_other, reading_disturbs_no_other}
use Rattle.radix_tree.specs.declared.entry.Entry.{Entry}
use Rattle.route_entries.specs.declared.route.Route.{Route}
use Rattle.route_ops.specs.Addressing.{withdrawn}
use Rattle.route_ops.specs.Looks.{Look, look}
use Rattle.route_core.proofs.MessageEffect.{message_effect}
use Rattle.route_core.proofs.RefusalsSpare.{no_memory_keeps_all}
use Rattle.route_core.specs.Commands.{Command}
use Rattle.route_core.specs.Effects.{request_effect}
use Rattle.route_core.specs.Queues.{KeptIsOfWhatItMet, OpensWithNothing, WaitsIsOfWhatItHeard, closes, events_in, heard_by, lacks_memory, own_read, step_events}
use Rattle.route_core.specs.Requests.{Outcome, outcome_of}
use Rattle.route_core.specs.Step.{Effect, Stepped, Steps, done, effect, lost_effect, packet_by, read_effect, remove_address_effect, remove_found, take_route, unless_refused, world_after, write_effect}
use Rattle.route_core.specs.Telling.{Told, delivered_all}
use Rattle.route_core.specs.Undisturbed.{Runs}
use Rattle.route_core.specs.World.{World}
use Rattle.route_core.specs.Writes.{request_of}
use Rattle.route_core.specs.declared.answer.Answer.{Answer}
use Rattle.route_core.specs.declared.answer.Answer.TheVariants.{Done, Refused}
use Rattle.route_core.specs.declared.command.Command.TheVariants.{Attach, AddAddress, RemoveAddress, Open, Close, Loopback, Write, Read, Lost, Packet, Redirect, Losing, DumpSize, Dump}
use Rattle.route_core.specs.declared.refusal.Refusal.{Refusal}
use Rattle.route_core.specs.declared.request.Request.{Request}

id_is : (id other : List ℕ) → bytes_eq id other ≡ true → id ≡ other
id_is id other h = (bytes_eq-Decides id other).0 h

same_id : (id : List ℕ) → bytes_eq id id ≡ true
same_id id = (bytes_eq-Decides id id).1 refl

-- ---- the socket of x

module _ (x : List ℕ) (f : Socket → Socket) (same : (s : Socket) → (f s).id ≡ s.id) where
  mapped : (ss : List Socket) (s : Socket) → socket_of x ss ≡ Some s → socket_of x (map f ss) ≡ Some (f s)
  mapped [] s h = absurd (cc)
  mapped (t ∷ ts) s h =
      elim (has_id x t) as (λ b. has_id x t ≡ b → cond b (Some t) (socket_of x ts) ≡ Some s
      → socket_of x (map f (t ∷ ts)) ≡ Some (f s)) [
        | true ↦ λ e k. ap (λ (i : List ℕ). cond (bytes_eq i x) (Some (f t)) (socket_of x (map f ts))) (same t)
            ∙ ap (λ (b : Bool). cond b (Some (f t)) (socket_of x (map f ts))) e ∙ ap (option_map f) k
        | false ↦ λ e k. ap (λ (i : List ℕ). cond (bytes_eq i x) (Some (f t)) (socket_of x (map f ts))) (same t)
            ∙ ap (λ (b : Bool). cond b (Some (f t)) (socket_of x (map f ts))) e ∙ mapped ts s k
      ] refl h

  changed : (ss : List Socket) (s : Socket) → socket_of x ss ≡ Some s
      → socket_of x (change_first (has_id x) f ss) ≡ Some (f s)
  changed [] s h = absurd (cc)
  changed (t ∷ ts) s h =
      let g : List Socket → List Socket = change_first (has_id x) f in
      elim (has_id x t) as (λ b. has_id x t ≡ b → cond b (Some t) (socket_of x ts) ≡ Some s
      → socket_of x (if b then f t ∷ ts else t ∷ g ts) ≡ Some (f s)) [
        | true ↦ λ e k. ap (λ (i : List ℕ). cond (bytes_eq i x) (Some (f t)) (socket_of x ts)) (same t)
            ∙ ap (λ (b : Bool). cond b (Some (f t)) (socket_of x ts)) e ∙ ap (option_map f) k
        | false ↦ λ e k. ap (λ (b : Bool). cond b (Some t) (socket_of x (g ts))) e ∙ changed ts s k
      ] refl h

-- after messages were told
all_told : (x : List ℕ) (ts : List Told) (ss : List Socket) (s : Socket) → socket_of x ss ≡ Some s
    → socket_of x (delivered_all ts ss) ≡ Some (after_deliveries ts s)
all_told x [] ss s h = h
all_told x (t ∷ ts) ss s h =
    let f = after_delivery t.message t.family t.own in
    all_told x ts (delivered t.message t.family t.own ss) (f s)
    (mapped x f (λ s. ap (λ (s : Socket). s.id) (bare_stays t.message t.family t.own s)) ss s h)

-- ---- effects that leave the sockets

unless-stays : (w : World) (fault : Option Errno) (e : Effect) → e.sockets ≡ w.sockets
    → (unless_refused w fault e).sockets ≡ w.sockets
unless-stays w None e h = h
unless-stays w (Some errno) e h = refl

either-stays : (b : Bool) (d e : Effect) (ss : List Socket) → d.sockets ≡ ss → e.sockets ≡ ss
    → (if b then d else e).sockets ≡ ss
either-stays true d e ss h k = h
either-stays false d e ss h k = k

take-stays : (w : World) (ifa : IfaRef) (address : ℕ) (facts : Facts) (r : Option (Entry Route))
    → (take_route w ifa address facts r).sockets ≡ w.sockets
take-stays w ifa address facts None = refl
take-stays w ifa address facts (Some r) = refl

found-stays : (w : World) (ifa : IfaRef) (address : ℕ) (a : Option Address)
    → (remove_found w ifa address a).sockets ≡ w.sockets
found-stays w ifa address None = refl
found-stays w ifa address (Some a) = take-stays w ifa address (facts_of a) (withdrawn ifa address (facts_of a) w.table)

removed-stays : (w : World) (address : ℕ) (ifa : Result IfaRef Errno)
    → (remove_address_effect w address ifa).sockets ≡ w.sockets
removed-stays w address (Err errno) = refl
removed-stays w address (Ok ifa) = found-stays w ifa address (address_of ifa w.interfaces)

outcome-stays : (w : World) (id : List ℕ) (pid : ℕ) (m : List ℕ) (o : Result Outcome Errno)
    → (request_effect w id pid m o).sockets ≡ w.sockets
outcome-stays w id pid m (Ok o) = refl
outcome-stays w id pid m (Err errno) = refl

request-stays : (w : World) (id : List ℕ) (pid : ℕ) (m : List ℕ) (r : Result Request Refusal)
    → (message_effect w id pid m r).sockets ≡ w.sockets
request-stays w id pid m (Ok request) = outcome-stays w id pid m (outcome_of w.interfaces w.table pid m request)
request-stays w id pid m (Err r) = refl

write-stays : (w : World) (id m : List ℕ) (pid : Option ℕ) → (write_effect w id m pid).sockets ≡ w.sockets
write-stays w id m None = refl
write-stays w id m (Some pid) = request-stays w id pid m (request_of m)

lost-stays : (w : World) (count : Option ℕ) → (lost_effect w count).sockets ≡ w.sockets
lost-stays w None = refl
lost-stays w (Some count) = refl

packet-stays : (w : World) (it : Look) (r : Option (Entry Route)) → (packet_by w it r).sockets ≡ w.sockets
packet-stays w it None = refl
packet-stays w it (Some r) = refl

-- ---- a step

-- x is open, with what these events leave of what it had
abbrev Keeps : List ℕ → List Socket → List Event → Socket → Type 0
Keeps x sockets es s =
    (after : Socket) × (socket_of x sockets ≡ Some after) × (kept after ≡ after_events es (kept s))

module _ (x : List ℕ) (w : World) (s : Socket) (is : socket_of x w.sockets ≡ Some s) where
  stays : (e : Effect) → e.sockets ≡ w.sockets → Keeps x e.sockets [] s
  stays e h = (s, ap (socket_of x) h ∙ is, refl)

  opening : (id : List ℕ) (pid protocol : ℕ) → socket_of x (w.sockets ++ opened id pid protocol ∷ []) ≡ Some s
  opening id pid protocol =
      find-append (has_id x) w.sockets (opened id pid protocol ∷ [])
      ∙ ap (λ (o : Option Socket). option_or o (find (has_id x) (opened id pid protocol ∷ []))) is

  unless-keeps : (fault : Option Errno) (e : Effect) → Keeps x e.sockets [] s
      → Keeps x (unless_refused w fault e).sockets [] s
  unless-keeps None e h = h
  unless-keeps (Some errno) e h = (s, is, refl)

  looping : (id : List ℕ) (on : Bool) → Keeps x (with_loopback id on w.sockets) [] s
  looping id on =
      elim (bytes_eq id x) as (λ b. bytes_eq id x ≡ b → Keeps x (with_loopback id on w.sockets) [] s) [
        | true ↦ λ e. subst (λ (i : List ℕ). Keeps x (with_loopback i on w.sockets) [] s) (sym (id_is id x e))
            (looped on s, changed x (looped on) (λ s. refl) w.sockets s is, refl)
        | false ↦ λ e. (s, loopback_disturbs_no_other id x on w.sockets e ∙ is, refl)
      ] refl

  reading_other : (id : List ℕ) (messages : Option (List (List ℕ))) → bytes_eq id x ≡ false
      → Keeps x (read_effect w id messages).sockets [] s
  reading_other id None e = (s, is, refl)
  reading_other id (Some messages) e = (s, reading_disturbs_no_other id x w.sockets e ∙ is, refl)

  reading_own : Keeps x (read_effect w x (messages_of x w.sockets)).sockets (HasRead ∷ []) s
  reading_own =
      subst (λ (o : Option Socket).
      Keeps x (read_effect w x (option_map (λ s. s.messages) o)).sockets (HasRead ∷ []) s) (sym is)
      (emptied s, changed x emptied (λ s. refl) w.sockets s is, refl)

  reading : (id : List ℕ)
      → Keeps x (read_effect w id (messages_of id w.sockets)).sockets (if bytes_eq id x then HasRead ∷ [] else []) s
  reading id =
      elim (bytes_eq id x) as (λ b. bytes_eq id x ≡ b
      → Keeps x (read_effect w id (messages_of id w.sockets)).sockets (if b then HasRead ∷ [] else []) s) [
        | true ↦ λ e. subst (λ (i : List ℕ).
            Keeps x (read_effect w i (messages_of i w.sockets)).sockets (HasRead ∷ []) s)
            (sym (id_is id x e)) reading_own
        | false ↦ λ e. reading_other id (messages_of id w.sockets) e
      ] refl

  -- before its messages are told
  before-told : (c : Command) → closes x c ≡ false → Keeps x (effect w c).sockets (own_read x c) s
  unfolding effect
  before-told (Attach name kind type_number link) h =
      stays (effect w (Attach name kind type_number link)) (unless-stays w (attach_fault name w.interfaces) _ refl)
  before-told (AddAddress name address prefix cloning far) h =
      stays (effect w (AddAddress name address prefix cloning far))
      (unless-stays w (addr_fault name address far w.interfaces) _
      (either-stays _ _ _ w.sockets refl refl))
  before-told (RemoveAddress name address) h =
      stays (effect w (RemoveAddress name address)) (removed-stays w address (find_addr name address w.interfaces))
  before-told (Open id pid protocol) h =
      unless-keeps (listen_fault id w.sockets) _ (s, opening id pid protocol, refl)
  before-told (Close id) h =
      unless-keeps (closed_fault id w.sockets) _ (s, closing_disturbs_no_other id x w.sockets h ∙ is, refl)
  before-told (Loopback id on) h = unless-keeps (closed_fault id w.sockets) _ (looping id on)
  before-told (Write id m) h = stays (effect w (Write id m)) (write-stays w id m (pid_of id w.sockets))
  before-told (Read id) h = reading id
  before-told (Lost id) h = stays (effect w (Lost id)) (lost-stays w (lost_of id w.sockets))
  before-told (Packet destination) h =
      let it = look true (gate.Inet destination) w.table in
      stays (effect w (Packet destination)) (packet-stays w it it.answer)
  before-told (Redirect asked) h = (s, is, refl)
  before-told (Losing destination) h = (s, is, refl)
  before-told (DumpSize flags) h = (s, is, refl)
  before-told (Dump flags room) h = (s, is, refl)

  -- and after
  stepping : (c : Command) → closes x c ≡ false → Keeps x (world_after (effect w c)).sockets (step_events x w c) s
  stepping c h =
      let e : Effect = effect w c in
      let b = before-told c h in
      let heard : heard_by x e.told e.sockets ≡ heard_of e.told b.0 =
      ap (λ (o : Option Socket). option_map_or (λ s. heard_of e.told s) o []) b.1 in (
        after_deliveries e.told b.0,
        all_told x e.told e.sockets b.0 b.1,
        deliveries_are_events e.told b.0
            ∙ ap (λ (es : List Event). after_events es (kept b.0)) (sym heard)
            ∙ ap (λ (k : Kept). after_events (heard_by x e.told e.sockets) k) b.2
            ∙ sym (events_in_parts (own_read x c) (heard_by x e.told e.sockets) (kept s)),
      )

-- ---- a run

no_memory : (a : Answer) → lacks_memory a ≡ true → a ≡ Refused ENOBUFS
no_memory (Refused ENOBUFS) h = refl
no_memory a h = absurd (cc)

the_machines : (w : World) (c : Command) (a : Answer) (next : World) → Steps w c a next → lacks_memory a ≡ false
    → world_after (effect w c) ≡ next
the_machines w c a next (inl is) h = ap (λ (s : Stepped). s.world) is
the_machines w c a next (inr none) h =
    let no : lacks_memory (Refused ENOBUFS) ≡ false = subst (λ (b : Answer). lacks_memory b ≡ false) none.1 h in
    absurd (cc)

pub kept_is_of_what_it_met : KeptIsOfWhatItMet
kept_is_of_what_it_met x old new [] s is open_still runs = (s, ap (λ (w : World). socket_of x w.sockets) runs ∙ is, refl)
kept_is_of_what_it_met x old new (t ∷ ts) s is open_still runs =
    let next : World = runs.0 in
    let after : World = world_after (effect old t.command) in
    let first : List Event = step_events x old t.command in
    elim (lacks_memory t.answer) as (λ b. lacks_memory t.answer ≡ b
    → Keeps x new.sockets (if b then events_in x old ts else first ++ events_in x after ts) s) [
      | true ↦ λ e. (
          let stays : next ≡ old = no_memory_keeps_all old t.command next
          (subst (λ (a : Answer). Steps old t.command a next) (no_memory t.answer e) runs.1) in
          kept_is_of_what_it_met x old new ts s is open_still.1 (subst (λ (w : World). Runs w ts new) stays runs.2))
      | false ↦ λ e. (
          let goes : after ≡ next = the_machines old t.command t.answer next runs.1 e in
          let one = stepping x old s is t.command open_still.0 in
          let rest = kept_is_of_what_it_met x after new ts one.0 one.1 open_still.1
          (subst (λ (w : World). Runs w ts new) (sym goes) runs.2) in (
            rest.0,
            rest.1,
            rest.2 ∙ ap (λ (k : Kept). after_events (events_in x after ts) k) one.2
                ∙ sym (events_in_parts first (events_in x after ts) (kept s)),
          ))
    ] refl

pub waits_is_of_what_it_heard : WaitsIsOfWhatItHeard
waits_is_of_what_it_heard x old new turns s is fresh open_still runs =
    let es : List Event = events_in x old turns in
    let so = kept_is_of_what_it_met x old new turns s is open_still runs in
    let all : kept so.0 ≡ after_events es nothing_kept = so.2 ∙ ap (λ (k : Kept). after_events es k) fresh in (
      so.0,
      so.1,
      subst (λ (k : Kept). IsSublist k.messages (heard_since [] es)) (sym all) (kept_are_heard es),
      subst (λ (k : Kept). length (joined k.messages) ≤ MOST_QUEUED) (sym all) (kept_is_bounded es),
    )

-- ---- opening

none_found : (o : Option Socket) → is_some o ≡ false → o ≡ None
none_found None h = refl
none_found (Some s) h = absurd (cc)

last_found : (x : List ℕ) (pid protocol : ℕ) (ss : List Socket) → list_any (has_id x) ss ≡ false
    → socket_of x (ss ++ opened x pid protocol ∷ []) ≡ Some (opened x pid protocol)
last_found x pid protocol ss h =
    let s = opened x pid protocol in
    find-append (has_id x) ss (s ∷ [])
    ∙ ap (λ (o : Option Socket). option_or o (find (has_id x) (s ∷ [])))
    (none_found (socket_of x ss) (sym (found (has_id x) ss) ∙ h))
    ∙ ap (λ (b : Bool). cond b (Some s) None) (same_id x)

abbrev opening_by : World → Socket → Bool → Bool → Effect
opening_by w s there full =
    unless_refused w (first_fault (rule there EEXIST ∷ rule full EMFILE ∷ []))
    (record (done w) { sockets = w.sockets ++ s ∷ [] })

opened_by : (w : World) (s : Socket) (there full : Bool) → (opening_by w s there full).answer ≡ Done
    → (there ≡ false) × ((world_after (opening_by w s there full)).sockets ≡ w.sockets ++ s ∷ [])
opened_by w s true full h = absurd (cc)
opened_by w s false true h = absurd (cc)
opened_by w s false false h = (refl, refl)

pub opens_with_nothing : OpensWithNothing
unfolding effect
opens_with_nothing x pid protocol old new (inl is) =
    let so = opened_by old (opened x pid protocol) (list_any (has_id x) old.sockets)
    (nat_le MOST_SOCKETS (length old.sockets)) (ap (λ (s : Stepped). s.answer) is) in (
      ap (λ (s : Stepped). socket_of x s.world.sockets) (sym is) ∙ ap (socket_of x) so.1
          ∙ last_found x pid protocol old.sockets so.0,
      refl,
    )
opens_with_nothing x pid protocol old new (inr none) = (let no : Done ≡ Refused ENOBUFS = none.1 in absurd (cc))
