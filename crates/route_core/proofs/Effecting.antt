-- How the calls of the world meet the machine's step, by the facts that each call finds.
use Rattle.std.proofs.Common.{◌≡◌, ℕ, ◌+◌, Bool, true, false, List, [], ◌∷◌, ◌++◌, map, inl, refl, sym, ap, ◌∙◌}
use Rattle.std.specs.Prelude.{if◌then◌else◌, Option, Some, None, Result, Ok, is_some, option_map}
use Rattle.std.proofs.lemmas.Option.{same_Some}
use Rattle.sock_addrs.specs.declared.errno.Errno.{Errno}
use Rattle.sock_addrs.specs.declared.errno.Errno.TheVariants.{EEXIST}
use Rattle.sock_addrs.specs.declared.families.TheConstants.{AF_INET}
use Rattle.if_addrs.specs.Facts.{facts_of}
use Rattle.if_addrs.specs.Interfaces.{Address, Interface, addr_fault, added, address_of, find_addr, kind_of, marked_routed, new_address, reference, with_address, without_addr}
use Rattle.if_addrs.specs.declared.reference.Facts.{Facts}
use Rattle.if_addrs.specs.declared.reference.IfaRef.{IfaRef}
use Rattle.if_addrs.specs.declared.reference.IfaRef.TheVariants as ifa
use Rattle.listeners.specs.Sockets.{Socket, delivered}
use Rattle.radix_tree.specs.Table.{entry_at, with_entry, without}
use Rattle.radix_tree.specs.declared.entry.Entry.{Entry}
use Rattle.route_entries.specs.declared.route.Route.{Route}
use Rattle.route_ops.specs.Addressing.{address_entry, withdrawn}
use Rattle.route_core.specs.Commands.{Command}
use Rattle.route_core.specs.Effects.{IsEffect, request_effect}
use Rattle.route_core.specs.Messages.{notice_told}
use Rattle.route_core.specs.Requests.{Outcome}
use Rattle.route_core.specs.Step.{Effect, Steps, announced, bring_route, done, effect, refused, remove_address_effect, remove_found, renounced, take_route, unless_refused}
use Rattle.route_core.specs.Telling.{Told, delivered_all, told}
use Rattle.route_core.specs.World.{World}
use Rattle.route_core.specs.declared.answer.Answer.{Answer}
use Rattle.route_core.specs.declared.answer.Answer.TheVariants.{Done, Refused}
use Rattle.route_core.specs.declared.command.Command.TheVariants.{AddAddress, RemoveAddress}

-- an effect that takes place is the machine's step
steps : (w : World) (c : Command) (e : Effect) (answer : Answer) (new : World) → effect w c ≡ e
    → IsEffect e answer new → Steps w c answer new
steps w c e answer new is by = inl (rw (is, by.answer, by.world) refl)

-- NEW ADDRESSES

-- what is asked of the interfaces and the table, where nothing speaks against the address
module _ (w : World) (name : List ℕ) (address prefix : ℕ) (cloning : Bool) (far : Option ℕ) where
  -- the address
  abbrev next_address : Address
  next_address = new_address (added w.interfaces + 1) (kind_of name w.interfaces) address prefix cloning far

  -- the route that it brings
  abbrev next_route : Entry Route
  next_route = address_entry (reference next_address) address (facts_of next_address)

  -- the interfaces that have it
  abbrev with_next : List Interface
  with_next = with_address name address prefix cloning far w.interfaces

  brought : (there : Bool) → addr_fault name address far w.interfaces ≡ None
      → is_some (entry_at next_route.key next_route.rank w.table) ≡ there
      → effect w (AddAddress name address prefix cloning far)
      ≡ (if there then record (refused w EEXIST) { interfaces = with_next } else record (done w) {
        table = with_entry next_route w.table;
        interfaces = marked_routed next_route.value.ifa with_next;
        told = announced with_next address (facts_of next_address) next_route;
      })
  unfolding effect
  brought there h is =
      let e = bring_route w with_next address (facts_of next_address) next_route in
      ap (λ (f : Option Errno). unless_refused w f e) h ∙ rw is refl

  -- the route is made of what the calls find
  route_is : (i : IfaRef) (facts : Facts) (r : Entry Route) → i ≡ ifa.Inet (added w.interfaces + 1)
      → facts_of next_address ≡ facts → r ≡ address_entry i address facts → r ≡ next_route
  route_is i facts r number known route = rw (route, number, ← known) refl

  -- it is there already
  pub address_taken : (i : IfaRef) (facts : Facts) (r : Entry Route) (got : List Interface)
      → addr_fault name address far w.interfaces ≡ None
      → i ≡ ifa.Inet (added w.interfaces + 1) → facts_of next_address ≡ facts → r ≡ address_entry i address facts
      → is_some (entry_at r.key r.rank w.table) ≡ true → got ≡ with_next
      → Steps w (AddAddress name address prefix cloning far) (Refused EEXIST) (record w { interfaces = got })
  address_taken i facts r got fault number known route there is =
      let taken = brought true fault (rw (route_is i facts r number known route) at there) in
      let e = record (refused w EEXIST) { interfaces = with_next } in
      steps w (AddAddress name address prefix cloning far) e _ _ taken (record { answer = refl; world = rw is refl })

  -- it is added
  pub address_routed : (i : IfaRef) (facts : Facts) (r : Entry Route)
      (table : List (Entry Route)) (got marked : List Interface) (sockets : List Socket)
      → addr_fault name address far w.interfaces ≡ None
      → i ≡ ifa.Inet (added w.interfaces + 1) → facts_of next_address ≡ facts → r ≡ address_entry i address facts
      → is_some (entry_at r.key r.rank w.table) ≡ false → table ≡ with_entry r w.table
      → got ≡ with_next → marked ≡ marked_routed i got
      → sockets ≡ delivered_all (announced got address facts r) w.sockets
      → Steps w (AddAddress name address prefix cloning far) Done
      (record { table = table; interfaces = marked; sockets = sockets })
  address_routed i facts r table got marked sockets fault number known route none entries is marks heard =
      let same = route_is i facts r number known route in
      let e = record (done w) {
        table = with_entry next_route w.table;
        interfaces = marked_routed (reference next_address) with_next;
        told = announced with_next address (facts_of next_address) next_route;
      } in
      steps w (AddAddress name address prefix cloning far) e _ _ (brought false fault (rw same at none))
      (record { answer = refl; world = rw (entries, marks, heard, is, same, number, ← known) refl })

-- what is told of an address is of that address
pub facts_known : (a : Address) (facts : Facts) (found : Option Address) → option_map facts_of found ≡ Some facts
    → found ≡ Some a → facts_of a ≡ facts
facts_known a facts found known is = same_Some (facts_of a) facts (sym (ap (option_map facts_of) is) ∙ known)

-- ADDRESSES THAT GO

found_is : (w : World) (i : IfaRef) (address : ℕ) (facts : Facts) (o : Option Address)
    → option_map facts_of o ≡ Some facts
    → remove_found w i address o ≡ take_route w i address facts (withdrawn i address facts w.table)
found_is w i address facts None known = cc
found_is w i address facts (Some a) known =
    let take = λ (f : Facts). take_route w i address f (withdrawn i address f w.table) in
    ap take (same_Some (facts_of a) facts known)

module _ (w : World) (name : List ℕ) (address : ℕ) (i : IfaRef) (facts : Facts) where
  pub taking : (route : Option (Entry Route)) → find_addr name address w.interfaces ≡ Ok i
      → option_map facts_of (address_of i w.interfaces) ≡ Some facts → withdrawn i address facts w.table ≡ route
      → effect w (RemoveAddress name address) ≡ take_route w i address facts route
  unfolding effect
  taking route found known is =
      ap (λ (f : Result IfaRef Errno). remove_address_effect w address f) found
      ∙ (found_is w i address facts (address_of i w.interfaces) known
      ∙ ap (λ (o : Option (Entry Route)). take_route w i address facts o) is)

  -- it takes no route away
  pub address_gone : (table : List (Entry Route)) (interfaces : List Interface) (sockets : List Socket)
      → find_addr name address w.interfaces ≡ Ok i → option_map facts_of (address_of i w.interfaces) ≡ Some facts
      → withdrawn i address facts w.table ≡ None
      → table ≡ w.table → interfaces ≡ without_addr i w.interfaces → sockets ≡ w.sockets
      → Steps w (RemoveAddress name address) Done
      (record { table = table; interfaces = interfaces; sockets = sockets })
  address_gone table interfaces sockets found known none entries is heard =
      steps w (RemoveAddress name address) (take_route w i address facts None) _ _ (taking None found known none)
      (record { answer = refl; world = rw (entries, is, heard) refl })

  -- it takes this one away
  pub address_gone_with : (r : Entry Route)
      (table : List (Entry Route)) (interfaces : List Interface) (sockets : List Socket)
      → find_addr name address w.interfaces ≡ Ok i → option_map facts_of (address_of i w.interfaces) ≡ Some facts
      → withdrawn i address facts w.table ≡ Some r
      → table ≡ without r.key r.rank w.table → interfaces ≡ without_addr i w.interfaces
      → sockets ≡ delivered_all (renounced w.interfaces i address facts r) w.sockets
      → Steps w (RemoveAddress name address) Done
      (record { table = table; interfaces = interfaces; sockets = sockets })
  address_gone_with r table interfaces sockets found known some entries is heard =
      steps w (RemoveAddress name address) (take_route w i address facts (Some r)) _ _
      (taking (Some r) found known some)
      (record { answer = refl; world = rw (entries, is, heard) refl })

-- WRITES

-- a last message is delivered after the others
told_last : (ts : List Told) (message : List ℕ) (family : ℕ) (own : Option (List ℕ)) (sockets : List Socket)
    → delivered_all (ts ++ told message family own ∷ []) sockets
    ≡ delivered message family own (delivered_all ts sockets)
told_last [] message family own sockets = refl
told_last (t ∷ ts) message family own sockets =
    told_last ts message family own (delivered t.message t.family t.own sockets)

-- a request that was done, whose messages were told, and then its reply
pub write_done : (w : World) (id : List ℕ) (pid : ℕ) (m : List ℕ) (r : Result Outcome Errno) (o : Outcome)
    (sockets : List Socket) → r ≡ Ok o
    → sockets ≡ delivered o.reply AF_INET (Some id) (delivered_all (map notice_told o.notices) w.sockets)
    → IsEffect (request_effect w id pid m r) Done (record w { table = o.table; sockets = sockets })
write_done w id pid m r o sockets is heard =
    let last = told_last (map notice_told o.notices) o.reply AF_INET (Some id) w.sockets in
    rw is (record { answer = refl; world = rw (heard, last) refl })
