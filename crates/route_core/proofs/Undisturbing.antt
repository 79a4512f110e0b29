-- Listeners do not disturb each other: two worlds go side by side, one by all commands and one by those that are left.
use Rattle.std.proofs.Common.{◌≡◌, ℕ, ◌≤◌, ◌+◌, Bool, true, false, cond, ◌||◌, filter, nat_le, List, [], ◌∷◌, ◌++◌, length, map, Option, Some, None, ◌⊎◌, inl, inr, option_map, bytes_eq, refl, sym, ap, subst, ◌∙◌, arith, if◌then◌else◌}
use Rattle.std.specs.Prelude.{⊤, Result, Ok, Err, is_some}
use Rattle.std.specs.List.{AllByRecursion, list_any}
use Rattle.std.proofs.lemmas.Bool.Decides.{nat_tests}
use Rattle.std.proofs.lemmas.List.{length-map}
use Rattle.std.proofs.lemmas.Slice.Eq.{bytes_eq-Decides}
use Rattle.sock_addrs.specs.Rules.{rule, first_fault}
use Rattle.sock_addrs.specs.declared.errno.Errno.{Errno}
use Rattle.sock_addrs.specs.declared.errno.Errno.TheVariants.{EEXIST, EMFILE, ENOBUFS}
use Rattle.sock_addrs.specs.declared.gate.Gate.TheVariants as gate
use Rattle.if_addrs.specs.Facts.{facts_of}
use Rattle.if_addrs.specs.Interfaces.{Address, Interface, added, addr_fault, address_of, attach_fault, attached, find_addr, kind_of, marked_routed, new_address, reference, with_address}
use Rattle.if_addrs.specs.declared.reference.Facts.{Facts}
use Rattle.if_addrs.specs.declared.reference.IfaRef.{IfaRef}
use Rattle.listeners.specs.Sockets.{Socket, closed_fault, emptied, has_id, listen_fault, looped, lost_of, messages_of, opened, pid_of, taken, with_loopback, without}
use Rattle.listeners.specs.declared.limits.TheConstants.{MOST_SOCKETS}
use Rattle.radix_tree.specs.Table.{entry_at, with_entry}
use Rattle.radix_tree.specs.declared.entry.Entry.{Entry}
use Rattle.route_entries.specs.declared.route.Route.{Route}
use Rattle.route_ops.specs.Addressing.{address_entry, withdrawn}
use Rattle.route_ops.specs.Looks.{Look, look}
use Rattle.route_core.proofs.MessageEffect.{message_effect}
use Rattle.route_core.proofs.SocketsSeen.{alike-change, alike-closed, alike-open, alike-opened, alike-own, alike-pid, alike-told, alike-without, seen, seen-all, seen-change_other, seen-few, seen-opened_other, seen-without_other}
use Rattle.route_core.specs.Commands.{Command}
use Rattle.route_core.specs.Effects.{request_effect}
use Rattle.route_core.specs.Queues.{LossesDisturbNobody, bare}
use Rattle.route_core.specs.Requests.{Outcome, outcome_of}
use Rattle.route_core.specs.Telling.{Told, delivered_all}
use Rattle.route_core.specs.Step.{Effect, Stepped, Steps, announced, answered, bring_route, close_effect, done, effect, lost_effect, loopback_effect, open_effect, packet_by, read_effect, refused, remove_address_effect, remove_found, stepped, take_route, unless_refused, world_after, write_effect}
use Rattle.route_core.specs.Undisturbed.{AreOneTo, HaveRoom, OthersAreNotNeeded, OthersDoNotDisturb, Runs, Turn, commands_of, is_left_where, lacks_room, matters, writes_to}
use Rattle.route_core.specs.World.{World, empty_world}
use Rattle.route_core.specs.Writes.{request_of}
use Rattle.route_core.specs.declared.answer.Answer.{Answer}
use Rattle.route_core.specs.declared.answer.Answer.TheVariants.{Refused}
use Rattle.route_core.specs.declared.command.Command.TheVariants.{Attach, AddAddress, RemoveAddress, Open, Close, Loopback, Write, Read, Lost, Packet, Redirect, Losing, DumpSize, Dump}
use Rattle.route_core.specs.declared.refusal.Refusal.{Refusal}
use Rattle.route_core.specs.declared.request.Request.{Request}

same_id : (id : List ℕ) → bytes_eq id id ≡ true
same_id id = (bytes_eq-Decides id id).1 refl

id_is : (id other : List ℕ) → bytes_eq id other ≡ true → id ≡ other
id_is id other h = (bytes_eq-Decides id other).0 h

or_true : (b : Bool) → (b || true) ≡ true
or_true true = refl
or_true false = refl

-- the world with these sockets in place of its own
abbrev over : World → List Socket → World
over w sockets = record w { sockets = sockets }

-- a step that finds room is the machine's
record Follows (w : World) (c : Command) (a : Answer) (next : World) : Type 0 where
  the_world : world_after (effect w c) ≡ next
  the_answer : (effect w c).answer ≡ a

follows : (w : World) (c : Command) (a : Answer) (next : World) → Steps w c a next → lacks_room a ≡ false
    → Follows w c a next
follows w c a next (inl is) room =
    record { the_world = ap (λ (s : Stepped). s.world) is; the_answer = ap (λ (s : Stepped). s.answer) is }
follows w c a next (inr none) room =
    let no : lacks_room (Refused ENOBUFS) ≡ false = subst (λ (b : Answer). lacks_room b ≡ false) none.1 room in
    absurd (cc)

-- a write names an id that is marked
abbrev IsNoted : (List ℕ → Bool) → Command → Type 0
IsNoted marks (Write id m) = marks id ≡ true
IsNoted marks c = ⊤

-- the worlds have the same routes and interfaces, and of their sockets the same is seen: of the first world's of those
-- that are marked, and of the second's of those that `keeps` says
module _ (x : List ℕ) (marks : List ℕ → Bool) (own_marked : marks x ≡ true) (keeps : List ℕ → Bool)
    (wide : (id : List ℕ) → marks id ≡ true → keeps id ≡ true) where
  abbrev SeenAlike : List Socket → List Socket → Type 0
  SeenAlike ss tt = seen x keeps tt ≡ seen x marks ss

  record Alike (w v : World) : Type 0 where
    table : v.table ≡ w.table
    interfaces : v.interfaces ≡ w.interfaces
    sockets : SeenAlike w.sockets v.sockets

  record AlikeEffects (d e : Effect) : Type 0 where
    table : e.table ≡ d.table
    interfaces : e.interfaces ≡ d.interfaces
    sockets : SeenAlike d.sockets e.sockets
    told : e.told ≡ d.told
    answer : e.answer ≡ d.answer

  -- ---- effects on worlds that differ in their sockets alone

  alike-sockets : (d : Effect) (tt : List Socket) → SeenAlike d.sockets tt → AlikeEffects d (record d { sockets = tt })
  alike-sockets d tt h = record { table = refl; interfaces = refl; sockets = h; told = refl; answer = refl }

  alike-unless : (w : World) (tt : List Socket) (fault : Option Errno) (d e : Effect) → SeenAlike w.sockets tt
      → AlikeEffects d e
      → AlikeEffects (unless_refused w fault d) (unless_refused (over w tt) fault e)
  alike-unless w tt None d e h alike = alike
  alike-unless w tt (Some errno) d e h alike = alike-sockets (refused w errno) tt h

  alike-either : (b : Bool) (d e : Effect) (tt : List Socket) → SeenAlike d.sockets tt → SeenAlike e.sockets tt
      → AlikeEffects (if b then d else e) (if b then record d { sockets = tt } else record e { sockets = tt })
  alike-either true d e tt h k = alike-sockets d tt h
  alike-either false d e tt h k = alike-sockets e tt k

  alike-brought : (w : World) (tt : List Socket) (interfaces : List Interface) (address : ℕ) (facts : Facts)
      (r : Entry Route) → SeenAlike w.sockets tt
      → AlikeEffects (bring_route w interfaces address facts r) (bring_route (over w tt) interfaces address facts r)
  alike-brought w tt interfaces address facts r h =
      alike-either (is_some (entry_at r.key r.rank w.table))
      (record (refused w EEXIST) { interfaces = interfaces })
      (record (done w) {
        table = with_entry r w.table;
        interfaces = marked_routed r.value.ifa interfaces;
        told = announced interfaces address facts r;
      })
      tt h h

  alike-taken : (w : World) (tt : List Socket) (ifa : IfaRef) (address : ℕ) (facts : Facts) (r : Option (Entry Route))
      → SeenAlike w.sockets tt
      → AlikeEffects (take_route w ifa address facts r) (take_route (over w tt) ifa address facts r)
  alike-taken w tt ifa address facts None h = alike-sockets (take_route w ifa address facts None) tt h
  alike-taken w tt ifa address facts (Some r) h = alike-sockets (take_route w ifa address facts (Some r)) tt h

  alike-found : (w : World) (tt : List Socket) (ifa : IfaRef) (address : ℕ) (a : Option Address)
      → SeenAlike w.sockets tt
      → AlikeEffects (remove_found w ifa address a) (remove_found (over w tt) ifa address a)
  alike-found w tt ifa address None h = alike-sockets (done w) tt h
  alike-found w tt ifa address (Some a) h =
      alike-taken w tt ifa address (facts_of a) (withdrawn ifa address (facts_of a) w.table) h

  alike-removed : (w : World) (tt : List Socket) (address : ℕ) (ifa : Result IfaRef Errno) → SeenAlike w.sockets tt
      → AlikeEffects (remove_address_effect w address ifa) (remove_address_effect (over w tt) address ifa)
  alike-removed w tt address (Err errno) h = alike-sockets (refused w errno) tt h
  alike-removed w tt address (Ok ifa) h = alike-found w tt ifa address (address_of ifa w.interfaces) h

  alike-outcome : (w : World) (tt : List Socket) (id : List ℕ) (pid : ℕ) (m : List ℕ) (o : Result Outcome Errno)
      → SeenAlike w.sockets tt
      → AlikeEffects (request_effect w id pid m o) (request_effect (over w tt) id pid m o)
  alike-outcome w tt id pid m (Ok o) h = alike-sockets (request_effect w id pid m (Ok o)) tt h
  alike-outcome w tt id pid m (Err errno) h = alike-sockets (request_effect w id pid m (Err errno)) tt h

  alike-request : (w : World) (tt : List Socket) (id : List ℕ) (pid : ℕ) (m : List ℕ) (r : Result Request Refusal)
      → SeenAlike w.sockets tt
      → AlikeEffects (message_effect w id pid m r) (message_effect (over w tt) id pid m r)
  alike-request w tt id pid m (Ok request) h =
      alike-outcome w tt id pid m (outcome_of w.interfaces w.table pid m request) h
  alike-request w tt id pid m (Err r) h = alike-sockets (message_effect w id pid m (Err r)) tt h

  alike-write : (w : World) (tt : List Socket) (id m : List ℕ) (pid : Option ℕ) → SeenAlike w.sockets tt
      → AlikeEffects (write_effect w id m pid) (write_effect (over w tt) id m pid)
  alike-write w tt id m None h = alike-sockets (write_effect w id m None) tt h
  alike-write w tt id m (Some pid) h = alike-request w tt id pid m (request_of m) h

  alike-packet : (w : World) (tt : List Socket) (it : Look) (r : Option (Entry Route)) → SeenAlike w.sockets tt
      → AlikeEffects (packet_by w it r) (packet_by (over w tt) it r)
  alike-packet w tt it None h = alike-sockets (packet_by w it None) tt h
  alike-packet w tt it (Some r) h = alike-sockets (packet_by w it (Some r)) tt h

  -- there is room for one socket more in the second world: it has no more than the first, or the effect there says so
  abbrev HasRoom : World → World → Effect → Type 0
  HasRoom w v e = (length v.sockets ≤ length w.sockets) ⊎ (lacks_room e.answer ≡ false)

  -- or both have as many
  abbrev Fits : World → World → Effect → Effect → Type 0
  Fits w v d e = (length v.sockets ≡ length w.sockets) ⊎ ((lacks_room d.answer ≡ false) × HasRoom w v e)

  -- `open`
  abbrev faults : Bool → Bool → Option Errno
  faults there full = first_fault (rule there EEXIST ∷ rule full EMFILE ∷ [])

  abbrev opening : World → Socket → Bool → Bool → Effect
  opening w s there full = unless_refused w (faults there full) (record (done w) { sockets = w.sockets ++ s ∷ [] })

  abbrev IsNotFull : Bool → Bool → Type 0
  IsNotFull full full' = full ≡ false → full' ≡ false

  alike-opening : (w : World) (tt : List Socket) (s : Socket) (there full full' : Bool)
      → SeenAlike w.sockets tt → SeenAlike (w.sockets ++ s ∷ []) (tt ++ s ∷ [])
      → lacks_room (opening w s there full).answer ≡ false
      → IsNotFull full full' ⊎ (lacks_room (opening (over w tt) s there full').answer ≡ false)
      → AlikeEffects (opening w s there full) (opening (over w tt) s there full')
  alike-opening w tt s true full full' h k room fits = alike-sockets (refused w EEXIST) tt h
  alike-opening w tt s false true full' h k room fits = absurd (cc)
  alike-opening w tt s false false true h k room (inl fits) = let no : true ≡ false = fits refl in absurd (cc)
  alike-opening w tt s false false true h k room (inr fits) = absurd (cc)
  alike-opening w tt s false false false h k room fits =
      record { table = refl; interfaces = refl; sockets = k; told = refl; answer = refl }

  alike-opening_same : (w : World) (tt : List Socket) (s : Socket) (there full full' : Bool)
      → SeenAlike w.sockets tt → SeenAlike (w.sockets ++ s ∷ []) (tt ++ s ∷ []) → full' ≡ full
      → AlikeEffects (opening w s there full) (opening (over w tt) s there full')
  alike-opening_same w tt s there full full' h k same =
      subst (λ (b : Bool). AlikeEffects (opening w s there full) (opening (over w tt) s there b)) (sym same)
      (alike-unless w tt (faults there full) _ _ h
      (alike-sockets (record (done w) { sockets = w.sockets ++ s ∷ [] }) (tt ++ s ∷ []) k))

  full-less : (m n : ℕ) → n ≤ m → nat_le MOST_SOCKETS m ≡ false → nat_le MOST_SOCKETS n ≡ false
  full-less m n le h = grind (arith, nat_tests)

  alike-open_effect : (w : World) (tt : List Socket) (id : List ℕ) (pid protocol : ℕ) → SeenAlike w.sockets tt
      → marks id ≡ true
      → Fits w (over w tt) (open_effect w id pid protocol) (open_effect (over w tt) id pid protocol)
      → AlikeEffects (open_effect w id pid protocol) (open_effect (over w tt) id pid protocol)
  alike-open_effect w tt id pid protocol h noted fits =
      let s = opened id pid protocol in
      let full = nat_le MOST_SOCKETS (length w.sockets) in
      let full' = nat_le MOST_SOCKETS (length tt) in
      let there : list_any (has_id id) tt ≡ list_any (has_id id) w.sockets =
      alike-open x marks keeps id w.sockets tt noted (wide id noted) h in
      let longer : SeenAlike (w.sockets ++ s ∷ []) (tt ++ s ∷ []) =
      alike-opened x marks keeps id pid protocol w.sockets tt noted (wide id noted) h in
      let Opens : Bool → Type 0 = λ b. lacks_room (opening (over w tt) s b full').answer ≡ false in
      let fitting : HasRoom w (over w tt) (open_effect (over w tt) id pid protocol)
      → IsNotFull full full' ⊎ Opens (list_any (has_id id) w.sockets) =
      λ roomy. (elim roomy as (λ _. IsNotFull full full' ⊎ Opens (list_any (has_id id) w.sockets)) [
        | inl fewer ↦ inl (full-less (length w.sockets) (length tt) fewer)
        | inr answered ↦ inr (subst Opens there answered)
      ]) in
      let t = list_any (has_id id) w.sockets in
      subst (λ (b : Bool). AlikeEffects (open_effect w id pid protocol) (opening (over w tt) s b full')) (sym there)
      (elim fits as (λ _. AlikeEffects (open_effect w id pid protocol) (opening (over w tt) s t full')) [
        | inl same ↦ alike-opening_same w tt s t full full' h longer (ap (λ (n : ℕ). nat_le MOST_SOCKETS n) same)
        | inr roomy ↦ alike-opening w tt s t full full' h longer roomy.0 (fitting roomy.1)
      ])

  -- `close`
  alike-close : (w : World) (tt : List Socket) (id : List ℕ) → SeenAlike w.sockets tt → marks id ≡ true
      → AlikeEffects (close_effect w id) (close_effect (over w tt) id)
  alike-close w tt id h noted =
      let d = record (done w) { sockets = without id w.sockets } in
      let e = record (done w) { sockets = without id tt } in
      subst (λ (fault : Option Errno). AlikeEffects (close_effect w id) (unless_refused (over w tt) fault e))
      (sym (alike-closed x marks keeps id w.sockets tt noted (wide id noted) h))
      (alike-unless w tt (closed_fault id w.sockets) d e h
      (alike-sockets d (without id tt) (alike-without x marks keeps id w.sockets tt h)))

  -- `loopback`
  alike-loopback : (w : World) (tt : List Socket) (on : Bool) → SeenAlike w.sockets tt
      → AlikeEffects (loopback_effect w x on) (loopback_effect (over w tt) x on)
  alike-loopback w tt on h =
      let d = record (done w) { sockets = with_loopback x on w.sockets } in
      let e = record (done w) { sockets = with_loopback x on tt } in
      subst (λ (fault : Option Errno). AlikeEffects (loopback_effect w x on) (unless_refused (over w tt) fault e))
      (sym (alike-closed x marks keeps x w.sockets tt own_marked (wide x own_marked) h))
      (alike-unless w tt (closed_fault x w.sockets) d e h
      (alike-sockets d (with_loopback x on tt)
      (alike-change x marks keeps (looped on) (λ s. refl) w.sockets tt own_marked (wide x own_marked) h)))

  -- `read`
  alike-reading : (w : World) (tt : List Socket) (messages : Option (List (List ℕ))) → SeenAlike w.sockets tt
      → AlikeEffects (read_effect w x messages) (read_effect (over w tt) x messages)
  alike-reading w tt None h = alike-sockets (read_effect w x None) tt h
  alike-reading w tt (Some messages) h = alike-sockets (read_effect w x (Some messages)) (taken x tt)
      (alike-change x marks keeps emptied (λ s. refl) w.sockets tt own_marked (wide x own_marked) h)

  alike-read : (w : World) (tt : List Socket) → SeenAlike w.sockets tt
      → AlikeEffects (read_effect w x (messages_of x w.sockets)) (read_effect (over w tt) x (messages_of x tt))
  alike-read w tt h =
      subst (λ (o : Option Socket). AlikeEffects (read_effect w x (messages_of x w.sockets))
      (read_effect (over w tt) x (option_map (λ s. s.messages) o)))
      (sym (alike-own x marks keeps w.sockets tt own_marked (wide x own_marked) h))
      (alike-reading w tt (messages_of x w.sockets) h)

  -- `lost`
  alike-counted : (w : World) (tt : List Socket) (count : Option ℕ) → SeenAlike w.sockets tt
      → AlikeEffects (lost_effect w count) (lost_effect (over w tt) count)
  alike-counted w tt None h = alike-sockets (lost_effect w None) tt h
  alike-counted w tt (Some count) h = alike-sockets (lost_effect w (Some count)) tt h

  alike-lost : (w : World) (tt : List Socket) → SeenAlike w.sockets tt
      → AlikeEffects (lost_effect w (lost_of x w.sockets)) (lost_effect (over w tt) (lost_of x tt))
  alike-lost w tt h =
      subst (λ (o : Option Socket). AlikeEffects (lost_effect w (lost_of x w.sockets))
      (lost_effect (over w tt) (option_map (λ s. s.lost) o)))
      (sym (alike-own x marks keeps w.sockets tt own_marked (wide x own_marked) h))
      (alike-counted w tt (lost_of x w.sockets) h)

  -- a command that is left does the same in both
  alike-effect : (w : World) (tt : List Socket) (c : Command) → SeenAlike w.sockets tt → is_left_where x marks c ≡ true
      → IsNoted marks c
      → Fits w (over w tt) (effect w c) (effect (over w tt) c)
      → AlikeEffects (effect w c) (effect (over w tt) c)
  unfolding effect
  alike-effect w tt (Attach name kind type_number link) h stays noted fits =
      alike-unless w tt (attach_fault name w.interfaces) _ _ h
      (alike-sockets (record (done w) { interfaces = w.interfaces ++ attached name kind type_number link ∷ [] }) tt h)
  alike-effect w tt (AddAddress name address prefix cloning far) h stays noted fits =
      let a = new_address (added w.interfaces + 1) (kind_of name w.interfaces) address prefix cloning far in
      alike-unless w tt (addr_fault name address far w.interfaces) _ _ h
      (alike-brought w tt (with_address name address prefix cloning far w.interfaces) address (facts_of a)
      (address_entry (reference a) address (facts_of a)) h)
  alike-effect w tt (RemoveAddress name address) h stays noted fits =
      alike-removed w tt address (find_addr name address w.interfaces) h
  alike-effect w tt (Open id pid protocol) h stays noted fits =
      alike-open_effect w tt id pid protocol h stays fits
  alike-effect w tt (Close id) h stays noted fits = alike-close w tt id h stays
  alike-effect w tt (Loopback id on) h stays noted fits =
      subst (λ (i : List ℕ). AlikeEffects (loopback_effect w i on) (loopback_effect (over w tt) i on))
      (sym (id_is id x stays)) (alike-loopback w tt on h)
  alike-effect w tt (Write id m) h stays noted fits =
      subst (λ (o : Option ℕ). AlikeEffects (write_effect w id m (pid_of id w.sockets))
      (write_effect (over w tt) id m o))
      (sym (alike-pid x marks keeps id w.sockets tt noted (wide id noted) h))
      (alike-write w tt id m (pid_of id w.sockets) h)
  alike-effect w tt (Read id) h stays noted fits =
      subst (λ (i : List ℕ). AlikeEffects (read_effect w i (messages_of i w.sockets))
      (read_effect (over w tt) i (messages_of i tt)))
      (sym (id_is id x stays)) (alike-read w tt h)
  alike-effect w tt (Lost id) h stays noted fits =
      subst (λ (i : List ℕ). AlikeEffects (lost_effect w (lost_of i w.sockets))
      (lost_effect (over w tt) (lost_of i tt)))
      (sym (id_is id x stays)) (alike-lost w tt h)
  alike-effect w tt (Packet destination) h stays noted fits =
      let it = look true (gate.Inet destination) w.table in alike-packet w tt it it.answer h
  alike-effect w tt (Redirect asked) h stays noted fits = alike-sockets (effect w (Redirect asked)) tt h
  alike-effect w tt (Losing destination) h stays noted fits = alike-sockets (effect w (Losing destination)) tt h
  alike-effect w tt (DumpSize flags) h stays noted fits = alike-sockets (effect w (DumpSize flags)) tt h
  alike-effect w tt (Dump flags capacity) h stays noted fits = alike-sockets (effect w (Dump flags capacity)) tt h

  -- ---- a command that is taken out

  -- it does nothing that is seen
  record IsUnseen (w : World) (e : Effect) : Type 0 where
    table : e.table ≡ w.table
    interfaces : e.interfaces ≡ w.interfaces
    sockets : seen x marks e.sockets ≡ seen x marks w.sockets
    told : e.told ≡ []

  unseen-unless : (w : World) (fault : Option Errno) (sockets : List Socket)
      → seen x marks sockets ≡ seen x marks w.sockets
      → IsUnseen w (unless_refused w fault (record (done w) { sockets = sockets }))
  unseen-unless w None sockets h = record { table = refl; interfaces = refl; sockets = h; told = refl }
  unseen-unless w (Some errno) sockets h = record { table = refl; interfaces = refl; sockets = refl; told = refl }

  unseen-read : (w : World) (id : List ℕ) (messages : Option (List (List ℕ))) → bytes_eq id x ≡ false
      → IsUnseen w (read_effect w id messages)
  unseen-read w id None other = record { table = refl; interfaces = refl; sockets = refl; told = refl }
  unseen-read w id (Some messages) other = record {
    table = refl;
    interfaces = refl;
    sockets = seen-change_other x marks emptied (λ s. refl) (λ s. refl) id other w.sockets;
    told = refl;
  }

  unseen-lost : (w : World) (count : Option ℕ) → IsUnseen w (lost_effect w count)
  unseen-lost w None = record { table = refl; interfaces = refl; sockets = refl; told = refl }
  unseen-lost w (Some count) = record { table = refl; interfaces = refl; sockets = refl; told = refl }

  unseen-effect : (w : World) (c : Command) → is_left_where x marks c ≡ false → IsUnseen w (effect w c)
  unfolding effect
  unseen-effect w (Open id pid protocol) out =
      unseen-unless w (listen_fault id w.sockets) (w.sockets ++ opened id pid protocol ∷ [])
      (seen-opened_other x marks id pid protocol out w.sockets)
  unseen-effect w (Close id) out =
      unseen-unless w (closed_fault id w.sockets) (without id w.sockets)
      (seen-without_other x marks id out w.sockets)
  unseen-effect w (Loopback id on) out =
      unseen-unless w (closed_fault id w.sockets) (with_loopback id on w.sockets)
      (seen-change_other x marks (looped on) (λ s. refl) (λ s. refl) id out w.sockets)
  unseen-effect w (Read id) out = unseen-read w id (messages_of id w.sockets) out
  unseen-effect w (Lost id) out = unseen-lost w (lost_of id w.sockets)
  unseen-effect w (Attach name kind type_number link) out = absurd (cc)
  unseen-effect w (AddAddress name address prefix cloning far) out = absurd (cc)
  unseen-effect w (RemoveAddress name address) out = absurd (cc)
  unseen-effect w (Write id m) out = absurd (cc)
  unseen-effect w (Packet destination) out = absurd (cc)
  unseen-effect w (Redirect asked) out = absurd (cc)
  unseen-effect w (Losing destination) out = absurd (cc)
  unseen-effect w (DumpSize flags) out = absurd (cc)
  unseen-effect w (Dump flags capacity) out = absurd (cc)

  -- ---- steps

  alike-after : (d e : Effect) → AlikeEffects d e → Alike (world_after d) (world_after e)
  alike-after d e alike = record {
    table = alike.table;
    interfaces = alike.interfaces;
    sockets = ap (λ (ts : List Told). seen x keeps (delivered_all ts e.sockets)) alike.told
        ∙ alike-told x marks keeps d.told d.sockets e.sockets alike.sockets;
  }

  unseen-after : (w v : World) (e : Effect) → Alike w v → IsUnseen w e → Alike (world_after e) v
  unseen-after w v e alike unseen = record {
    table = alike.table ∙ sym unseen.table;
    interfaces = alike.interfaces ∙ sym unseen.interfaces;
    sockets = alike.sockets ∙ sym unseen.sockets
        ∙ ap (λ (ts : List Told). seen x marks (delivered_all ts e.sockets)) (sym unseen.told);
  }

  -- the second world is the first with other sockets
  is_over : (w v : World) → Alike w v → over w v.sockets ≡ v
  is_over w v alike =
      ap (λ (t : List (Entry Route)). record w { table = t; sockets = v.sockets }) (sym alike.table)
      ∙ ap (λ (i : List Interface). record v { interfaces = i }) (sym alike.interfaces)

  alike-effects : (w v : World) (c : Command) → Alike w v → is_left_where x marks c ≡ true → IsNoted marks c
      → Fits w v (effect w c) (effect v c) → AlikeEffects (effect w c) (effect v c)
  alike-effects w v c alike stays noted fits =
      let IsAlike : World → Type 0 = λ u. Fits w u (effect w c) (effect u c) → AlikeEffects (effect w c) (effect u c) in
      subst IsAlike (is_over w v alike) (alike-effect w v.sockets c alike.sockets stays noted) fits

  -- where a command is left, both worlds go on, and answer the same
  record GoOnAlike (v next : World) (c : Command) (a : Answer) : Type 0 where
    worlds : Alike next (world_after (effect v c))
    answers : (effect v c).answer ≡ a

  step-left : (w v next : World) (t : Turn) → Alike w v → IsNoted marks t.command → Steps w t.command t.answer next
      → lacks_room t.answer ≡ false → is_left_where x marks t.command ≡ true → HasRoom w v (effect v t.command)
      → GoOnAlike v next t.command t.answer
  step-left w v next t alike noted step room stays fits =
      let f = follows w t.command t.answer next step room in
      let effects = alike-effects w v t.command alike stays noted
      (inr (ap lacks_room f.the_answer ∙ room, fits)) in
      record {
        worlds = subst (λ (u : World). Alike u (world_after (effect v t.command))) f.the_world
            (alike-after (effect w t.command) (effect v t.command) effects);
        answers = effects.answer ∙ f.the_answer;
      }

  -- where it is taken out, the first alone
  step-out : (w v next : World) (t : Turn) → Alike w v → Steps w t.command t.answer next → lacks_room t.answer ≡ false
      → is_left_where x marks t.command ≡ false → Alike next v
  step-out w v next t alike step room out =
      subst (λ (u : World). Alike u v) (follows w t.command t.answer next step room).the_world
      (unseen-after w v (effect w t.command) alike (unseen-effect w t.command out))

  -- ---- runs

  abbrev AreNoted : List Turn → Type 0
  AreNoted turns = AllByRecursion (λ t. IsNoted marks t.command) turns

  abbrev rest_of : List Turn → List Turn
  rest_of turns = filter (λ t. is_left_where x marks t.command) turns

  abbrev rest_commands : List Turn → List Command
  rest_commands turns = filter (is_left_where x marks) (commands_of turns)

  ends-alike : (w v new other : World) → Alike w v → new ≡ w → other ≡ v → Alike new other
  ends-alike w v new other alike p q =
      subst (λ (u : World). Alike u other) (sym p) (subst (λ (u : World). Alike w u) (sym q) alike)

  -- the commands that are left are answered the same, where nothing is answered for want of room
  runs-alike : (w v new other : World) (ts rest : List Turn) → Alike w v → AreNoted ts → Runs w ts new → HaveRoom ts
      → commands_of rest ≡ rest_commands ts → Runs v rest other → HaveRoom rest
      → (rest ≡ rest_of ts) × Alike new other
  runs-alike w v new other [] [] alike noted runs room commands runs' room' =
      (refl, ends-alike w v new other alike runs runs')
  runs-alike w v new other [] (r ∷ rest) alike noted runs room commands runs' room' = absurd (cc)
  runs-alike w v new other (t ∷ ts) [] alike noted runs room commands runs' room' =
      elim (is_left_where x marks t.command) as
      (λ b. is_left_where x marks t.command ≡ b → commands_of [] ≡ cond b (t.command ∷ rest_commands ts) (rest_commands ts)
      → ([] ≡ cond b (t ∷ rest_of ts) (rest_of ts)) × Alike new other) [
        | true ↦ λ e k. absurd (cc)
        | false ↦ λ e k. runs-alike runs.0 v new other ts [] (step-out w v runs.0 t alike runs.1 room.0 e)
            noted.1 runs.2 room.1 k runs' room'
      ] refl commands
  runs-alike w v new other (t ∷ ts) (r ∷ rest) alike noted runs room commands runs' room' =
      let next = runs.0 in
      let next' = runs'.0 in
      elim (is_left_where x marks t.command) as
      (λ b. is_left_where x marks t.command ≡ b
      → commands_of (r ∷ rest) ≡ cond b (t.command ∷ rest_commands ts) (rest_commands ts)
      → (r ∷ rest ≡ cond b (t ∷ rest_of ts) (rest_of ts)) × Alike new other) [
        | true ↦ λ e k. (
            let command : r.command ≡ t.command = cc in
            let commands' : commands_of rest ≡ rest_commands ts = cc in
            let step' = subst (λ (c : Command). Steps v c r.answer next') command runs'.1 in
            let g = follows v t.command r.answer next' step' room'.0 in
            let fits : HasRoom w v (effect v t.command) = inr (ap lacks_room g.the_answer ∙ room'.0) in
            let both = step-left w v next t alike noted.0 runs.1 room.0 e fits in
            let turn : r ≡ t =
            ap (λ (c : Command). record r { command = c }) command
            ∙ ap (λ (a : Answer). record t { answer = a }) (sym g.the_answer ∙ both.answers) in
            let alike' = subst (λ (u : World). Alike next u) g.the_world both.worlds in
            let so = runs-alike next next' new other ts rest alike' noted.1 runs.2 room.1 commands' runs'.2 room'.1 in
            (ap (λ (u : Turn). u ∷ rest) turn ∙ ap (λ (us : List Turn). t ∷ us) so.0, so.1))
        | false ↦ λ e k. runs-alike next v new other ts (r ∷ rest) (step-out w v next t alike runs.1 room.0 e)
            noted.1 runs.2 room.1 k runs' room'
      ] refl commands

  -- they may be answered so where the second world never has more sockets than the first
  runs-there : ((ss tt : List Socket) → SeenAlike ss tt → length tt ≤ length ss)
      → (w v new : World) (ts : List Turn) → Alike w v → AreNoted ts → Runs w ts new → HaveRoom ts
      → (other : World) × Runs v (rest_of ts) other × Alike new other
  runs-there few w v new [] alike noted runs room = (v, refl, ends-alike w v new v alike runs refl)
  runs-there few w v new (t ∷ ts) alike noted runs room =
      let next = runs.0 in
      elim (is_left_where x marks t.command) as
      (λ b. is_left_where x marks t.command ≡ b
      → (other : World) × Runs v (cond b (t ∷ rest_of ts) (rest_of ts)) other × Alike new other) [
        | true ↦ λ e. (
            let next' = world_after (effect v t.command) in
            let fits : HasRoom w v (effect v t.command) = inl (few w.sockets v.sockets alike.sockets) in
            let both = step-left w v next t alike noted.0 runs.1 room.0 e fits in
            let step : stepped v t.command ≡ record { world = next'; answer = t.answer } =
            ap (λ (a : Answer). record { world = next'; answer = a }) both.answers in
            let so = runs-there few next next' new ts both.worlds noted.1 runs.2 room.1 in
            (so.0, (next', inl step, so.1), so.2))
        | false ↦ λ e.
            runs-there few next v new ts (step-out w v next t alike runs.1 room.0 e) noted.1 runs.2 room.1
      ] refl

  ends-one : (w v : World) → Alike w v → AreOneTo x w v
  ends-one w v alike = record {
    table = alike.table;
    interfaces = alike.interfaces;
    socket = alike-own x marks keeps w.sockets v.sockets own_marked (wide x own_marked) alike.sockets;
  }

-- ---- every write of a list is one of the list

noted-more : (x : List ℕ) (c : Command) (all : List Command) (d : Command) → IsNoted (matters x all) d → IsNoted (matters x (c ∷ all)) d
noted-more x c all (Write id m) h = more (bytes_eq id x) (writes_to id c) (list_any (writes_to id) all) h
  where
    more : (a b d : Bool) → (a || d) ≡ true → (a || (b || d)) ≡ true
    more true b d h = refl
    more false true d h = refl
    more false false d h = h
noted-more x c all d h = tt

all-noted_more : (x : List ℕ) (c : Command) (all : List Command) (ts : List Turn)
    → AllByRecursion (λ t. IsNoted (matters x all) t.command) ts → AllByRecursion (λ t. IsNoted (matters x (c ∷ all)) t.command) ts
all-noted_more x c all [] h = tt
all-noted_more x c all (t ∷ ts) h = (noted-more x c all t.command h.0, all-noted_more x c all ts h.1)

noted-first : (x : List ℕ) (c : Command) (all : List Command) → IsNoted (matters x (c ∷ all)) c
noted-first x (Write id m) all =
    ap (λ (b : Bool). bytes_eq id x || (b || list_any (writes_to id) all)) (same_id id) ∙ or_true (bytes_eq id x)
noted-first x c all = tt

noted : (x : List ℕ) (ts : List Turn) → AllByRecursion (λ t. IsNoted (matters x (commands_of ts)) t.command) ts
noted x [] = tt
noted x (t ∷ ts) =
    (noted-first x t.command (commands_of ts), all-noted_more x t.command (commands_of ts) ts (noted x ts))

own_matters : (x : List ℕ) (all : List Command) → matters x all x ≡ true
own_matters x all = ap (λ (b : Bool). b || list_any (writes_to x) all) (same_id x)

-- ---- the laws

pub others_do_not_disturb : OthersDoNotDisturb
others_do_not_disturb x old new other turns rest runs room commands runs' room' =
    let all = commands_of turns in
    let so = runs-alike x (matters x all) (own_matters x all) (matters x all) (λ id h. h) old old new other turns rest
    (record { table = refl; interfaces = refl; sockets = refl }) (noted x turns) runs room commands runs' room' in
    (so.0, ends-one x (matters x all) (own_matters x all) (matters x all) (λ id h. h) new other so.1)

pub others_are_not_needed : OthersAreNotNeeded
others_are_not_needed x new turns runs room =
    let all = commands_of turns in
    let few : (ss tt : List Socket) → seen x (λ id. true) tt ≡ seen x (matters x all) ss → length tt ≤ length ss =
    λ ss tt h. (
    let long : length tt ≡ length (seen x (matters x all) ss) =
    sym (seen-all x tt) ∙ ap (λ (ys : List Socket). length ys) h in
    let less : length (seen x (matters x all) ss) ≤ length ss = seen-few x (matters x all) ss in
    omega (arith, long, less)) in
    let so = runs-there x (matters x all) (own_matters x all) (λ id. true) (λ id h. refl) few empty_world empty_world new turns
    (record { table = refl; interfaces = refl; sockets = refl }) (noted x turns) runs room in
    (so.0, so.1, ends-one x (matters x all) (own_matters x all) (λ id. true) (λ id h. refl) new so.0 so.2)

-- ---- losses

abbrev every : List ℕ → Bool
every id = true

seen-every : (x : List ℕ) (ss : List Socket) → seen x every ss ≡ map (bare x) ss
seen-every x [] = refl
seen-every x (s ∷ ss) = ap (λ (ys : List Socket). bare x s ∷ ys) (seen-every x ss)

every-noted : (c : Command) → IsNoted every c
every-noted (Write id m) = refl
every-noted c = tt

pub losses_disturb_nobody : LossesDisturbNobody
losses_disturb_nobody x a b c worlds none =
    let sees : Alike x every refl every (λ id h. h) a b = record {
      table = worlds.table;
      interfaces = worlds.interfaces;
      sockets = seen-every x b.sockets ∙ worlds.sockets ∙ sym (seen-every x a.sockets);
    } in
    let long : length b.sockets ≡ length a.sockets =
    sym (length-map b.sockets (bare x)) ∙ ap (λ (ys : List Socket). length ys) worlds.sockets
    ∙ length-map a.sockets (bare x) in
    let effects = alike-effects x every refl every (λ id h. h) a b c sees none (every-noted c) (inl long) in
    let after = alike-after x every refl every (λ id h. h) (effect a c) (effect b c) effects in
    let told_a = (world_after (effect a c)).sockets in
    let told_b = (world_after (effect b c)).sockets in (
      effects.answer,
      record {
        table = after.table;
        interfaces = after.interfaces;
        sockets = sym (seen-every x told_b) ∙ after.sockets ∙ seen-every x told_a;
      },
    )
