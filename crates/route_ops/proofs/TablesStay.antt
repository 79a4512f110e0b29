-- A table of routes that lead out of some interfaces stays one.
use Rattle.std.proofs.Common.{◌≡◌, ℕ, ◌-◌, ◌*◌, ◌/◌, ◌^◌, ◌<◌, ◌≤◌, ◌==◌, Bool, true, false, not, List, Option, Some, None, bit_and, refl, ap, arith}
use Rattle.std.specs.Prelude.{IfSome, IfOk, Result, Ok, Err, if◌then◌else◌, is_some, ok_or, option_map, unwrap_or, ⊤}
use Rattle.std.specs.Option.{option_and_then, option_or}
use Rattle.std.proofs.lemmas.Nat.{pow_pos}
use Rattle.std.proofs.Math.Nat.{div-mul-le_self, mul-div_cancel}
use Rattle.sock_addrs.specs.declared.errno.Errno.{Errno}
use Rattle.sock_addrs.specs.declared.errno.Errno.TheVariants.{EEXIST, EHOSTUNREACH, EINVAL, ENETUNREACH, ESRCH, ETOOMANYREFS}
use Rattle.sock_addrs.specs.declared.gate.Gate.{Gate}
use Rattle.sock_addrs.specs.declared.gate.Gate.TheVariants as gate
use Rattle.mask_table.specs.Agreeing.{front, masked}
use Rattle.mask_table.specs.Ranks.{rank_of}
use Rattle.route_msgs.specs.declared.flags.TheConstants.{RTF_CLONING, RTF_DYNAMIC, RTF_GATEWAY, RTF_HOST}
use Rattle.if_addrs.specs.Interfaces.{Interface, IsOf, interface_of}
use Rattle.if_addrs.specs.Numbered.{NumberedOnce}
use Rattle.if_addrs.specs.Searches.{for_route, has_broadcast, with_addr, with_net}
use Rattle.if_addrs.specs.declared.kind.Kind.{Kind}
use Rattle.if_addrs.specs.declared.kind.Kind.TheVariants.{Broadcast, Loopback, PointToPoint}
use Rattle.if_addrs.specs.declared.reference.Facts.{Facts}
use Rattle.if_addrs.specs.declared.reference.IfaRef.{IfaRef}
use Rattle.radix_tree.specs.Table.{best_of, entry_at, with_entry, without}
use Rattle.radix_tree.specs.declared.entry.Entry.{Entry}
use Rattle.radix_tree.proofs.ListLemmas.{all_weaker}
use Rattle.radix_tree.proofs.MemberLemmas.{all_best_of, all_entry_at, all_with, all_without}
use Rattle.radix_tree.proofs.TableLemmas.{with_is_table, without_is_table}
use Rattle.route_entries.specs.Routes.{clone_rank, has_flag}
use Rattle.route_entries.specs.declared.route.Route.{Route}
use Rattle.route_ops.specs.Adding.{Adding, add, added, asked_rank, best_ifa, ifa_for, new_entry}
use Rattle.route_ops.specs.Changing.{by_address, by_gateway, by_interface, change, changed_entry, ifa_asked, lock, locked, rewritten, sought, target}
use Rattle.route_ops.specs.Looks.{Settled, answer_of, clone_at, clone_or_parent, found, found_by, settle, settle_found, told_of, unless_there, unsettled, with_clone}
use Rattle.route_ops.specs.Losses.{losing_by}
use Rattle.route_ops.specs.Redirecting.{dynamic, ended, is_of_another, judged, match_modify, modified, redirect_by, verdict, verdict_near}
use Rattle.route_ops.specs.Refusing.{◌>>=◌}
use Rattle.route_ops.specs.Tables.{AddingStays, AddressRouteIsOf, ChangingStays, IsChange, IsGate, IsMaskOrNone, IsNewRoute, IsRouteOf, IsTableOf, KeptStays, LockingStays, LookStays, LosingStays, RedirectStays, WithStays, WithoutStays}
use Rattle.route_ops.specs.declared.adding.NewRoute.{NewRoute}
use Rattle.route_ops.specs.declared.changing.Change.{Change}
use Rattle.route_ops.specs.declared.looking.Found.{Found}
use Rattle.route_ops.specs.declared.looking.Found.TheVariants.{Nothing, Known, NotCloned, Cloned}
use Rattle.route_ops.specs.declared.redirecting.NewGateway.{NewGateway}
use Rattle.route_ops.specs.declared.redirecting.Verdict.{Verdict}
use Rattle.route_ops.specs.declared.redirecting.Verdict.TheVariants.{Create, Modify}
use Rattle.route_ops.proofs.FoundOf.{IfOf, for_route_of, interface_within, of_interface_of, or_else_of, or_of, then_of, with_addr_of, with_net_of}
use Rattle.route_ops.proofs.RedirectRefused.{either}
use Rattle.route_ops.proofs.RefusingLemmas.{each_ok, ok_is, ok_of_some, ok_then, ok_weaker}

-- ONE MORE ROUTE, AND ONE LESS

pub with_stays : WithStays
with_stays is table r h route =
    record { order = with_is_table table r h.order route.pair; routes = all_with (IsRouteOf is) r table h.routes route }

pub without_stays : WithoutStays
without_stays is table key rank h =
    record {
      order = without_is_table table key rank h.order;
      routes = all_without (IsRouteOf is) key rank table h.routes;
    }

pub kept_stays : KeptStays
kept_stays old new table keeps h = record {
  order = h.order;
  routes = all_weaker (IsRouteOf old) (IsRouteOf new)
      (λ r is. record { pair = is.pair; gateway = is.gateway; genmask = is.genmask; ifa = keeps r.value.ifa is.ifa })
      table h.routes;
}

-- what is found among them is one of them
best_is : (is : List Interface) (address : ℕ) (table : List (Entry Route)) → IsTableOf is table
    → IfSome (best_of address table) (IsRouteOf is)
best_is is address table h =
    elim (best_of address table) as (λ o. best_of address table ≡ o → IfSome o (IsRouteOf is))
    [ None ↦ λ e. tt | Some r ↦ λ e. all_best_of (IsRouteOf is) address table r h.routes e ] refl

-- PAIRS

masked_below : (rank address : ℕ) → address < 2 ^ 32 → masked rank address < 2 ^ 32
masked_below rank address h =
    let less : address / 2 ^ (32 - rank) * 2 ^ (32 - rank) ≤ address = div-mul-le_self address (2 ^ (32 - rank)) in
    omega (arith, h, less)

masked_twice : (rank address : ℕ) → masked rank (masked rank address) ≡ masked rank address
masked_twice rank address = ap (λ n. n * 2 ^ (32 - rank)) (mul-div_cancel (front rank address) (pow_pos (32 - rank)))

masked_host : (address : ℕ) → masked 33 address ≡ address
masked_host address = omega arith

ranked : (mask : Option ℕ) → IsMaskOrNone mask → rank_of mask ≤ 33
ranked None h = omega arith
ranked (Some bits) h = omega (arith, h)

-- LOOKING UP

clone_is : (is : List Interface) (address : ℕ) (r : Entry Route) → address < 2 ^ 32 → IsRouteOf is r
    → IsRouteOf is (clone_at address r.value)
clone_is is address r below h =
    let rank = clone_rank r.value.genmask in
    record {
      pair = record {
        rank = ranked r.value.genmask h.genmask;
        address = masked_below rank address below;
        key = masked_twice rank address;
      };
      gateway = h.gateway;
      genmask = tt;
      ifa = h.ifa;
    }

abbrev FoundIs : List Interface → Found → Type 0
FoundIs is Nothing = ⊤
FoundIs is (Known r) = IsRouteOf is r
FoundIs is (NotCloned r) = IsRouteOf is r
FoundIs is (Cloned r) = IsRouteOf is r

unless_there_is : (is : List Interface) (r : Entry Route) (table : List (Entry Route)) → IsRouteOf is r
    → IfOk (unless_there r table) (IsRouteOf is)
unless_there_is is r table h =
    either (λ (t : Result (Entry Route) Errno). IfOk t (IsRouteOf is)) (is_some (entry_at r.key r.rank table))
    (Err EEXIST) (Ok r) tt h

clone_or_parent_is : (is : List Interface) (r : Entry Route) (clone : Result (Entry Route) Errno) → IsRouteOf is r
    → IfOk clone (IsRouteOf is)
    → FoundIs is (clone_or_parent r clone)
clone_or_parent_is is r (Ok clone) parent new = new
clone_or_parent_is is r (Err errno) parent new = parent

found_by_is : (is : List Interface) (address : ℕ) (table : List (Entry Route)) (best : Option (Entry Route))
    → address < 2 ^ 32 → IfSome best (IsRouteOf is) → FoundIs is (found_by address table best)
found_by_is is address table None below h = tt
found_by_is is address table (Some r) below h =
    let clone = clone_at address r.value in
    either (FoundIs is) (has_flag RTF_CLONING r.value) _ (Known r)
    (clone_or_parent_is is r (unless_there clone table) h (unless_there_is is clone table (clone_is is address r below h)))
    h

found_is : (is : List Interface) (about : Gate) (table : List (Entry Route)) → IsTableOf is table → IsGate about
    → FoundIs is (found about table)
found_is is (gate.Link text) table h gate = tt
found_is is (gate.Inet address) table h below =
    found_by_is is address table (best_of address table) below (best_is is address table h)

with_clone_is : (is : List Interface) (it : Found) (table : List (Entry Route)) → IsTableOf is table → FoundIs is it
    → IsTableOf is (with_clone it table)
with_clone_is is Nothing table h k = h
with_clone_is is (Known r) table h k = h
with_clone_is is (NotCloned r) table h k = h
with_clone_is is (Cloned r) table h k = with_stays is table r h k

answer_is : (is : List Interface) (it : Found) → FoundIs is it → IfSome (answer_of it) (IsRouteOf is)
answer_is is Nothing h = tt
answer_is is (Known r) h = h
answer_is is (NotCloned r) h = h
answer_is is (Cloned r) h = h

settle_is : (is : List Interface) (r : Route) (table : List (Entry Route)) → IsTableOf is table → IsGate r.gateway
    → IsTableOf is (settle r table).table
settle_is is r table h gate =
    let it = found r.gateway table in
    either (λ (s : Settled). IsTableOf is s.table) (has_flag RTF_GATEWAY r)
    (record { table = with_clone it table; messages = told_of r.gateway it }) (unsettled table)
    (with_clone_is is it table h (found_is is r.gateway table h gate)) h

settle_found_is : (is : List Interface) (deep : Bool) (it : Found) (table : List (Entry Route)) → IsTableOf is table
    → FoundIs is it
    → IsTableOf is (settle_found deep it table).table
settle_found_is is false it table h k = h
settle_found_is is true Nothing table h k = h
settle_found_is is true (Known r) table h k = h
settle_found_is is true (NotCloned r) table h k = h
settle_found_is is true (Cloned r) table h k = settle_is is r.value table h k.gateway

pub look_stays : LookStays
look_stays deep about is table h gate =
    let it = found about table in
    let of = found_is is about table h gate in
    (settle_found_is is deep it (with_clone it table) (with_clone_is is it table h of) of, answer_is is it of)

-- ADDING

added_is : (is : List Interface) (r : Entry Route) (table : List (Entry Route)) → IsTableOf is table → IsRouteOf is r
    → IsTableOf is (added r table).table
added_is is r table h route = settle_is is r.value (with_entry r table) (with_stays is table r h route) route.gateway

asked_is : (a : NewRoute) → IsNewRoute a → asked_rank a.flags a.netmask ≤ 33
asked_is a h =
    either (λ n. n ≤ 33) (bit_and a.flags RTF_HOST == 0) (rank_of a.netmask) 33 (ranked a.netmask h.netmask)
    (omega arith)

new_is : (is : List Interface) (a : NewRoute) (i : IfaRef) → IsNewRoute a → IsOf i is → IsRouteOf is (new_entry a i)
new_is is a i h of =
    let rank = asked_rank a.flags a.netmask in
    record {
      pair = record {
        rank = asked_is a h;
        address = masked_below rank a.destination h.destination;
        key = masked_twice rank a.destination;
      };
      gateway = h.gateway;
      genmask = h.genmask;
      ifa = of;
    }

best_ifa_of : (is : List Interface) (address : ℕ) (table : List (Entry Route)) → IsTableOf is table
    → IfOf is (best_ifa address table)
best_ifa_of is address table h =
    elim (best_of address table) as (λ o. IfSome o (IsRouteOf is) → IfOf is (option_map (λ r. r.value.ifa) o))
    [ None ↦ λ k. tt | Some r ↦ λ k. k.ifa ] (best_is is address table h)

-- the table of what is added, or changed
abbrev TableIs : List Interface → Adding → Type 0
TableIs is it = IsTableOf is it.table

add_is : (is : List Interface) (a : NewRoute) (table : List (Entry Route)) → NumberedOnce is → IsTableOf is table
    → IsNewRoute a
    → IfOk (add a is table) (TableIs is)
add_is is a table once h new =
    let last : Entry Route → Result Adding Errno = λ r. Ok (added r table) in
    let with_ifa : IfaRef → Result Adding Errno = λ i. unless_there (new_entry a i) table >>= last in
    let ifa = ok_or (ifa_for a is table) ENETUNREACH in
    let of : IfOk ifa (λ i. IsOf i is) =
    ok_of_some (λ i. IsOf i is) (ifa_for a is table) ENETUNREACH
    (for_route_of is once a.flags a.destination a.gateway (best_ifa a.destination table)
    (best_ifa_of is a.destination table h)) in
    ok_then (TableIs is) ifa with_ifa
    (ok_weaker (λ i. IsOf i is) (λ i. IfOk (with_ifa i) (TableIs is)) ifa
    (λ i one. (
    let r = unless_there (new_entry a i) table in
    ok_then (TableIs is) r last
    (ok_weaker (IsRouteOf is) (λ x. IfOk (last x) (TableIs is)) r (λ x route. added_is is x table h route)
    (unless_there_is is (new_entry a i) table (new_is is a i new one)))))
    of)

pub adding_stays : AddingStays
adding_stays a is table it once h new e = ok_is (TableIs is) (add a is table) it (add_is is a table once h new) e

-- CHANGING

target_is : (is : List Interface) (destination : ℕ) (netmask : Option ℕ) (table : List (Entry Route))
    → IsTableOf is table → IfOk (target destination netmask table) (IsRouteOf is)
target_is is destination netmask table h =
    let rank = rank_of netmask in
    let at = ok_or (entry_at destination rank table) ETOOMANYREFS in
    let own : Entry Route → Result (Entry Route) Errno = λ b. if b.key == destination then at else Err ESRCH in
    let stands : IfSome (entry_at destination rank table) (IsRouteOf is) =
    elim (entry_at destination rank table) as (λ o. entry_at destination rank table ≡ o → IfSome o (IsRouteOf is))
    [ None ↦ λ k. tt | Some x ↦ λ k. all_entry_at (IsRouteOf is) destination rank table x h.routes k ] refl in
    let found : IfOk at (IsRouteOf is) =
    ok_of_some (IsRouteOf is) (entry_at destination rank table) ETOOMANYREFS stands in
    let best = ok_or (best_of destination table) ESRCH in
    ok_then (IsRouteOf is) best own
    (each_ok (λ b. IfOk (own b) (IsRouteOf is)) best
    (λ b _. either (λ (t : Result (Entry Route) Errno). IfOk t (IsRouteOf is)) (b.key == destination) at (Err ESRCH)
    found tt))

gateway_or : (g : Option Gate) (old : Gate) → IfSome g IsGate → IsGate old → IsGate (unwrap_or g old)
gateway_or None old h k = k
gateway_or (Some x) old h k = h

mask_or : (new old : Option ℕ) → IsMaskOrNone new → IsMaskOrNone old → IsMaskOrNone (option_or new old)
mask_or None old h k = k
mask_or (Some bits) old h k = h

by_address_of : (is : List Interface) (a : Change) (r : Entry Route) (table : List (Entry Route)) → NumberedOnce is
    → IsTableOf is table
    → IfOf is (by_address a r is table)
by_address_of is a r table once h =
    let by_gate = λ (g : Gate). for_route r.value.flags r.key g (best_ifa r.key table) is in
    or_of is (option_and_then (λ i. with_addr i is) a.ifa) (by_gateway a r is table)
    (then_of is (λ i. with_addr i is) a.ifa (with_addr_of is once))
    (then_of is by_gate a.gateway
    (λ g. for_route_of is once r.value.flags r.key g (best_ifa r.key table) (best_ifa_of is r.key table h)))

by_interface_of : (is : List Interface) (a : Change) (r : Entry Route) (table : List (Entry Route))
    (o : Option IfaRef) → NumberedOnce is → IsTableOf is table → IfOf is o
    → IfOf is (by_interface a r is table o)
by_interface_of is a r table None once h of = by_address_of is a r table once h
by_interface_of is a r table (Some i) once h of =
    of_interface_of is once (sought a r) (interface_of i is) (interface_within is i of)

ifa_asked_of : (is : List Interface) (a : Change) (r : Entry Route) (table : List (Entry Route)) → NumberedOnce is
    → IsTableOf is table
    → IfOf is (ifa_asked a r is table)
ifa_asked_of is a r table once h =
    by_interface_of is a r table (option_and_then (λ i. with_net i is) a.ifp) once h
    (then_of is (λ i. with_net i is) a.ifp (with_net_of is once))

changed_is : (is : List Interface) (a : Change) (r : Entry Route) (table : List (Entry Route)) → NumberedOnce is
    → IsTableOf is table → IsChange a → IsRouteOf is r
    → IsRouteOf is (changed_entry a is table r)
changed_is is a r table once h new route = record {
  pair = record { rank = route.pair.rank; address = route.pair.address; key = route.pair.key };
  gateway = gateway_or a.gateway r.value.gateway new.gateway route.gateway;
  genmask = mask_or a.genmask r.value.genmask new.genmask route.genmask;
  ifa = or_else_of is (ifa_asked a r is table) r.value.ifa (ifa_asked_of is a r table once h) route.ifa;
}

rewritten_is : (is : List Interface) (g : Option Gate) (r : Entry Route) (table : List (Entry Route))
    → IsTableOf is table → IsRouteOf is r
    → IsTableOf is (rewritten g r table).table
rewritten_is is None r table h route = with_stays is table r h route
rewritten_is is (Some g) r table h route =
    settle_is is r.value (with_entry r table) (with_stays is table r h route) route.gateway

change_is : (is : List Interface) (a : Change) (table : List (Entry Route)) → NumberedOnce is → IsTableOf is table
    → IsChange a
    → IfOk (change a is table) (TableIs is)
change_is is a table once h new =
    let t = target a.destination a.netmask table in
    let last : Entry Route → Result Adding Errno = λ r. Ok (rewritten a.gateway (changed_entry a is table r) table) in
    ok_then (TableIs is) t last
    (ok_weaker (IsRouteOf is) (λ r. IfOk (last r) (TableIs is)) t
    (λ r route.
    rewritten_is is a.gateway (changed_entry a is table r) table h (changed_is is a r table once h new route))
    (target_is is a.destination a.netmask table h))

pub changing_stays : ChangingStays
changing_stays a is table it once h new e =
    ok_is (TableIs is) (change a is table) it (change_is is a table once h new) e

-- LOCKING

locked_is : (is : List Interface) (inits locks : ℕ) (r : Entry Route) → IsRouteOf is r
    → IsRouteOf is (locked inits locks r)
locked_is is inits locks r route = record {
  pair = record { rank = route.pair.rank; address = route.pair.address; key = route.pair.key };
  gateway = route.gateway;
  genmask = route.genmask;
  ifa = route.ifa;
}

pub locking_stays : LockingStays
locking_stays destination netmask inits locks is table r h e =
    let t = target destination netmask table in
    let last : Entry Route → Result (Entry Route) Errno = λ x. Ok (locked inits locks x) in
    with_stays is table r h
    (ok_is (IsRouteOf is) (lock destination netmask inits locks table) r
    (ok_then (IsRouteOf is) t last
    (ok_weaker (IsRouteOf is) (λ x. IfOk (last x) (IsRouteOf is)) t (λ x route. locked_is is inits locks x route)
    (target_is is destination netmask table h))) e)

-- REDIRECTS

abbrev VerdictIs : List Interface → Result Verdict Errno → Type 0
VerdictIs is v = IfOk v (λ it. match_modify it (IsRouteOf is))

judged_is : (is : List Interface) (best : Option (Entry Route)) → IfSome best (IsRouteOf is)
    → VerdictIs is (judged best)
judged_is is None h = tt
judged_is is (Some r) h =
    either (VerdictIs is) (r.rank == 0) (Ok Create) _ tt
    (either (VerdictIs is) (not (has_flag RTF_GATEWAY r.value)) (Err EHOSTUNREACH) _ tt
    (either (VerdictIs is) (not (has_flag RTF_HOST r.value)) (Ok Create) (Ok (Modify r)) tt h))

verdict_near_is : (is : List Interface) (best : Option (Entry Route)) (a : NewGateway) (near : IfaRef)
    → IfSome best (IsRouteOf is)
    → VerdictIs is (verdict_near best a is near)
verdict_near_is is best a near h =
    either (VerdictIs is) (is_of_another best a.author near) (Err EINVAL) _ tt
    (either (VerdictIs is) (is_some (with_addr (gate.Inet a.gateway) is)) (Err EHOSTUNREACH) (judged best) tt
    (judged_is is best h))

verdict_is : (is : List Interface) (a : NewGateway) (table : List (Entry Route)) → IsTableOf is table
    → VerdictIs is (verdict a is table)
verdict_is is a table h =
    let best = best_of a.destination table in
    let near = ok_or (with_net (gate.Inet a.gateway) is) ENETUNREACH in
    ok_then (λ it. match_modify it (IsRouteOf is)) near (verdict_near best a is)
    (each_ok (λ i. VerdictIs is (verdict_near best a is i)) near
    (λ i _. verdict_near_is is best a i (best_is is a.destination table h)))

ended_is : (is : List Interface) (a : NewGateway) (tried : ℕ) (table : List (Entry Route)) (made : Result Adding Errno)
    → IsTableOf is table → IfOk made (TableIs is)
    → IsTableOf is (ended a tried table made).table
ended_is is a tried table (Ok it) h k = k
ended_is is a tried table (Err errno) h k = h

modified_is : (is : List Interface) (gateway : ℕ) (r : Entry Route) → gateway < 2 ^ 32 → IsRouteOf is r
    → IsRouteOf is (modified gateway r)
modified_is is gateway r below route = record {
  pair = record { rank = route.pair.rank; address = route.pair.address; key = route.pair.key };
  gateway = below;
  genmask = route.genmask;
  ifa = route.ifa;
}

redirect_by_is : (is : List Interface) (a : NewGateway) (table : List (Entry Route)) (v : Result Verdict Errno)
    → NumberedOnce is → IsTableOf is table
    → a.destination < 2 ^ 32 → a.gateway < 2 ^ 32 → VerdictIs is v → IsTableOf is (redirect_by a is table v).table
redirect_by_is is a table (Err errno) once h destination gateway k = h
redirect_by_is is a table (Ok Create) once h destination gateway k =
    ended_is is a RTF_DYNAMIC table (add (dynamic a) is table) h
    (add_is is (dynamic a) table once h
    (record { destination = destination; netmask = tt; gateway = gateway; genmask = tt }))
redirect_by_is is a table (Ok (Modify r)) once h destination gateway k =
    added_is is (modified a.gateway r) table h (modified_is is a.gateway r gateway k)

pub redirect_stays : RedirectStays
redirect_stays a is table once h destination gateway =
    redirect_by_is is a table (verdict a is table) once h destination gateway (verdict_is is a table h)

-- LOSSES

losing_by_is : (is : List Interface) (address : ℕ) (table : List (Entry Route)) (best : Option (Entry Route))
    → IsTableOf is table
    → IsTableOf is (losing_by address table best).table
losing_by_is is address table None h = h
losing_by_is is address table (Some r) h =
    either (IsTableOf is) (has_flag RTF_DYNAMIC r.value) (without r.key r.rank table) table
    (without_stays is table r.key r.rank h) h

pub losing_stays : LosingStays
losing_stays address is table h = losing_by_is is address table (best_of address table) h

-- ADDRESSES

address_pair : (address : ℕ) (facts : Facts) (kind : Kind) → address < 2 ^ 32 → facts.prefix ≤ 32 → facts.far < 2 ^ 32
    → let key = (if has_broadcast kind then masked facts.prefix address else facts.far) in
    let rank = (if has_broadcast kind then facts.prefix else 33) in
    (rank ≤ 33) × (key < 2 ^ 32) × (masked rank key ≡ key)
address_pair address facts Broadcast below prefix far =
    (omega (arith, prefix), masked_below facts.prefix address below, masked_twice facts.prefix address)
address_pair address facts Loopback below prefix far = (omega arith, far, masked_host facts.far)
address_pair address facts PointToPoint below prefix far = (omega arith, far, masked_host facts.far)

pub address_route_is_of : AddressRouteIsOf
address_route_is_of i address facts is of below prefix far =
    let pair = address_pair address facts facts.kind below prefix far in
    record {
      pair = record { rank = pair.0; address = pair.1; key = pair.2 };
      gateway = below;
      genmask = tt;
      ifa = of;
    }
