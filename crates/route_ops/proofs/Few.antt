-- How little one call brings.
use Rattle.std.proofs.Common.{◌≡◌, ℕ, ◌+◌, ◌≤◌, true, false, ◌==◌, List, [], ◌∷◌, ◌++◌, length, Option, Some, None, refl, arith, length-append}
use Rattle.std.specs.Prelude.{is_some, if◌then◌else◌, IfSome, IfOk, Result, Ok, Err, ok_or}
use Rattle.sock_addrs.specs.declared.errno.Errno.{Errno}
use Rattle.sock_addrs.specs.declared.errno.Errno.TheVariants.{ENETUNREACH, ESRCH, ETOOMANYREFS}
use Rattle.sock_addrs.specs.declared.gate.Gate.{Gate}
use Rattle.mask_table.specs.Ranks.{rank_of}
use Rattle.route_msgs.specs.declared.flags.TheConstants.{RTF_DYNAMIC, RTF_GATEWAY, RTF_MODIFIED, RTF_XRESOLVE}
use Rattle.if_addrs.specs.Interfaces.{Interface}
use Rattle.if_addrs.specs.declared.reference.IfaRef.{IfaRef}
use Rattle.radix_tree.specs.Table.{best_of, entry_at, with_entry, without}
use Rattle.radix_tree.specs.declared.entry.Entry.{Entry}
use Rattle.radix_tree.proofs.MemberLemmas.{entry_at_is_member}
use Rattle.route_entries.specs.Routes.{has_flag}
use Rattle.route_entries.specs.declared.route.Route.{Route}
use Rattle.route_ops.specs.Adding.{Adding, add, added, ifa_for, new_entry}
use Rattle.route_ops.specs.Bringing.{AddingBringsTwo, Brings, ChangingBringsOne, DeepLookBringsTwo, LockingBringsNone, LookBringsOne, LosingBringsNone, RedirectBringsTwo, SettlingBringsOne}
use Rattle.route_ops.specs.Changing.{change, changed_entry, lock, locked, rewritten, settle_written, target}
use Rattle.route_ops.specs.Looks.{Settled, found, look_of, settle, told_of, unless_there, unsettled, with_clone}
use Rattle.route_ops.specs.Losses.{losing_by, losing_told}
use Rattle.route_ops.specs.Redirecting.{dynamic, ended, modified, redirect_by, redirect_told, verdict}
use Rattle.route_ops.specs.Refusing.{◌>>=◌}
use Rattle.route_ops.specs.Standing.{brought}
use Rattle.route_ops.specs.declared.adding.NewRoute.{NewRoute}
use Rattle.route_ops.specs.declared.changing.Change.{Change}
use Rattle.route_ops.specs.declared.looking.Found.{Found}
use Rattle.route_ops.specs.declared.looking.Found.TheVariants.{Nothing, Known, NotCloned, Cloned}
use Rattle.route_ops.specs.declared.notice.Notice.{Notice}
use Rattle.route_ops.specs.declared.notice.Notice.TheVariants.{Resolve}
use Rattle.route_ops.specs.declared.redirecting.NewGateway.{NewGateway}
use Rattle.route_ops.specs.declared.redirecting.Verdict.{Verdict}
use Rattle.route_ops.specs.declared.redirecting.Verdict.TheVariants.{Create, Modify}
use Rattle.route_ops.proofs.Bringing.{none_less, none_more, none_own, one_more}
use Rattle.route_ops.proofs.RedirectRefused.{either}
use Rattle.route_ops.proofs.RefusingLemmas.{each_ok, ok_is, ok_of_some, ok_then}

-- what a look-up tells is one message at most
told_few : (about : Gate) (it : Found) → length (told_of about it) ≤ 1
told_few about Nothing = omega arith
told_few about (Known r) = omega arith
told_few about (NotCloned r) = omega arith
told_few about (Cloned r) = elim (has_flag RTF_XRESOLVE r.value) as (λ b. length (if b then Resolve about ∷ [] else []) ≤ 1) [ true ↦ omega arith | false ↦ omega arith ]

-- and what it adds is one route at most
clone_few : (old : List (Entry Route)) (it : Found) (table : List (Entry Route)) → brought old (with_clone it table) ≤ brought old table + 1
clone_few old Nothing table = omega arith
clone_few old (Known r) table = omega arith
clone_few old (NotCloned r) table = omega arith
clone_few old (Cloned r) table = one_more old table r

-- a step from a table to another brings so much more than the table had brought
pub record More (routes messages : ℕ) (old from to : List (Entry Route)) (told : List Notice) : Type 0 where
  pub routes_more : brought old to ≤ brought old from + routes
  pub few_messages : length told ≤ messages

settle_more : (old : List (Entry Route)) (r : Route) (table : List (Entry Route)) → let it = settle r table in More 1 1 old table it.table it.messages
settle_more old r table =
    let it = found r.gateway table in
    elim (has_flag RTF_GATEWAY r) as (λ b. let s : Settled = (if b then record { table = with_clone it table; messages = told_of r.gateway it } else unsettled table) in More 1 1 old table s.table s.messages) [
      | true ↦ record { routes_more = clone_few old it table; few_messages = told_few r.gateway it }
      | false ↦ record { routes_more = omega arith; few_messages = omega arith }
    ]

brings : (routes messages : ℕ) (old new : List (Entry Route)) (told : List Notice) → More routes messages old old new told → Brings routes messages old new told
brings routes messages old new told more = record { few_routes = omega (arith, more.routes_more, none_own old); few_messages = more.few_messages }

pub settling_brings_one : SettlingBringsOne
settling_brings_one r table = brings 1 1 table (settle r table).table (settle r table).messages (settle_more table r table)

joined : (about : Gate) (it : Found) (told : List Notice) (n : ℕ) → length told ≤ n → length (told ++ told_of about it) ≤ n + 1
joined about it told n few = omega (arith, length-append told (told_of about it), told_few about it, few)

look_one : (about : Gate) (table : List (Entry Route)) (it : Found) → let l = look_of false about it table in Brings 1 1 table l.table l.messages
look_one about table it = record { few_routes = omega (arith, clone_few table it table, none_own table); few_messages = told_few about it }

pub look_brings_one : LookBringsOne
look_brings_one about table = look_one about table (found about table)

shallow_in_deep : (about : Gate) (table : List (Entry Route)) (it : Found) → Brings 2 2 table (with_clone it table) (told_of about it)
shallow_in_deep about table it = record { few_routes = omega (arith, clone_few table it table, none_own table); few_messages = omega (arith, told_few about it) }

look_two : (about : Gate) (table : List (Entry Route)) (it : Found) → let l = look_of true about it table in Brings 2 2 table l.table l.messages
look_two about table Nothing = shallow_in_deep about table Nothing
look_two about table (Known r) = shallow_in_deep about table (Known r)
look_two about table (NotCloned r) = shallow_in_deep about table (NotCloned r)
look_two about table (Cloned r) =
    let settled = settle_more table r.value (with_entry r table) in
    record {
      few_routes = omega (arith, settled.routes_more, one_more table table r, none_own table);
      few_messages = joined about (Cloned r) (settle r.value (with_entry r table)).messages 1 settled.few_messages;
    }

pub deep_look_brings_two : DeepLookBringsTwo
deep_look_brings_two about table = look_two about table (found about table)

-- REQUESTS

added_two : (r : Entry Route) (table : List (Entry Route)) → let it = added r table in Brings 2 1 table it.table it.messages
added_two r table =
    let settled = settle_more table r.value (with_entry r table) in
    record { few_routes = omega (arith, settled.routes_more, one_more table table r, none_own table); few_messages = settled.few_messages }

-- the table and the messages of what is added, or changed
abbrev Few : ℕ → List (Entry Route) → Adding → Type 0
Few routes table it = Brings routes 1 table it.table it.messages

add_two : (a : NewRoute) (interfaces : List Interface) (table : List (Entry Route)) → IfOk (add a interfaces table) (Few 2 table)
add_two a interfaces table =
    let last : Entry Route → Result Adding Errno = λ r. Ok (added r table) in
    let with_ifa : IfaRef → Result Adding Errno = λ i. unless_there (new_entry a i) table >>= last in
    let ifa = ok_or (ifa_for a interfaces table) ENETUNREACH in
    ok_then (Few 2 table) ifa with_ifa (each_ok (λ i. IfOk (with_ifa i) (Few 2 table)) ifa (λ i _.
    let r = unless_there (new_entry a i) table in
    ok_then (Few 2 table) r last (each_ok (λ x. IfOk (last x) (Few 2 table)) r (λ x _. added_two x table))))

pub adding_brings_two : AddingBringsTwo
adding_brings_two a interfaces table it is = ok_is (Few 2 table) (add a interfaces table) it (add_two a interfaces table) is

written_more : (old : List (Entry Route)) (g : Option Gate) (r : Route) (table : List (Entry Route)) → let it = settle_written g r table in More 1 1 old table it.table it.messages
written_more old None r table = record { routes_more = omega arith; few_messages = omega arith }
written_more old (Some g) r table = settle_more old r table

rewritten_one : (g : Option Gate) (r : Entry Route) (table : List (Entry Route)) → is_some (entry_at r.key r.rank table) ≡ true
    → let it = rewritten g r table in Brings 1 1 table it.table it.messages
rewritten_one g r table there =
    let settled = written_more table g r.value (with_entry r table) in
    record { few_routes = omega (arith, settled.routes_more, none_more table table r there, none_own table); few_messages = settled.few_messages }

at_own_pair : (key rank : ℕ) (r : Entry Route) (table : List (Entry Route)) → entry_at key rank table ≡ Some r → is_some (entry_at r.key r.rank table) ≡ true
at_own_pair key rank r table is = let pair = (entry_at_is_member key rank table r is).1 in rw (pair.0, pair.1, is) refl

some_there : (key rank : ℕ) (table : List (Entry Route)) (o : Option (Entry Route)) → entry_at key rank table ≡ o → IfSome o (λ r. is_some (entry_at r.key r.rank table) ≡ true)
some_there key rank table None is = tt
some_there key rank table (Some r) is = at_own_pair key rank r table is

-- a route that CHANGE and LOCK mean is there
target_there : (d : ℕ) (netmask : Option ℕ) (table : List (Entry Route)) → IfOk (target d netmask table) (λ r. is_some (entry_at r.key r.rank table) ≡ true)
target_there d netmask table =
    let there : Entry Route → Type 0 = λ r. is_some (entry_at r.key r.rank table) ≡ true in
    let rank = rank_of netmask in
    let at = ok_or (entry_at d rank table) ETOOMANYREFS in
    let own : Entry Route → Result (Entry Route) Errno = λ b. if b.key == d then at else Err ESRCH in
    let found : IfOk at there = ok_of_some there (entry_at d rank table) ETOOMANYREFS (some_there d rank table (entry_at d rank table) refl) in
    let best = ok_or (best_of d table) ESRCH in
    ok_then there best own (each_ok (λ b. IfOk (own b) there) best
    (λ b _. either (λ (t : Result (Entry Route) Errno). IfOk t there) (b.key == d) at (Err ESRCH) found tt))

change_one : (a : Change) (interfaces : List Interface) (table : List (Entry Route)) → IfOk (change a interfaces table) (Few 1 table)
change_one a interfaces table =
    let there : Entry Route → Type 0 = λ r. is_some (entry_at r.key r.rank table) ≡ true in
    let t = target a.destination a.netmask table in
    let last : Entry Route → Result Adding Errno = λ r. Ok (rewritten a.gateway (changed_entry a interfaces table r) table) in
    ok_then (Few 1 table) t last (each_ok (λ r. IfOk (last r) (Few 1 table)) t
    (λ r is. rewritten_one a.gateway (changed_entry a interfaces table r) table (ok_is there t r (target_there a.destination a.netmask table) is)))

pub changing_brings_one : ChangingBringsOne
changing_brings_one a interfaces table it is = ok_is (Few 1 table) (change a interfaces table) it (change_one a interfaces table) is

pub locking_brings_none : LockingBringsNone
locking_brings_none d netmask inits locks table r is =
    let there : Entry Route → Type 0 = λ x. is_some (entry_at x.key x.rank table) ≡ true in
    let t = target d netmask table in
    let last : Entry Route → Result (Entry Route) Errno = λ x. Ok (locked inits locks x) in
    let at : there r = ok_is there (lock d netmask inits locks table) r (ok_then there t last (target_there d netmask table)) is in
    omega (arith, none_more table table r at, none_own table)

ended_two : (a : NewGateway) (tried : ℕ) (table : List (Entry Route)) (res : Result Adding Errno) → IfOk res (Few 2 table)
    → let end = ended a tried table res in Brings 2 2 table end.table end.messages
ended_two a tried table (Ok it) few = record {
  few_routes = few.few_routes;
  few_messages = omega (arith, length-append it.messages (redirect_told a tried None ∷ []), few.few_messages);
}
ended_two a tried table (Err errno) few = record { few_routes = omega (arith, none_own table); few_messages = omega arith }

redirect_two : (a : NewGateway) (interfaces : List Interface) (table : List (Entry Route)) (v : Result Verdict Errno) → let end = redirect_by a interfaces table v in Brings 2 2 table end.table end.messages
redirect_two a interfaces table (Err errno) = ended_two a 0 table (Err errno) tt
redirect_two a interfaces table (Ok Create) = ended_two a RTF_DYNAMIC table (add (dynamic a) interfaces table) (add_two (dynamic a) interfaces table)
redirect_two a interfaces table (Ok (Modify r)) = ended_two a RTF_MODIFIED table (Ok (added (modified a.gateway r) table)) (added_two (modified a.gateway r) table)

pub redirect_brings_two : RedirectBringsTwo
redirect_brings_two a interfaces table = redirect_two a interfaces table (verdict a interfaces table)

-- what is left where a redirect made the route is no more than there was
losing_none : (address : ℕ) (table : List (Entry Route)) (best : Option (Entry Route)) → let it = losing_by address table best in Brings 0 1 table it.table it.messages
losing_none address table None = record { few_routes = omega (arith, none_own table); few_messages = omega arith }
losing_none address table (Some r) =
    let told = losing_told address r ∷ [] in
    either (λ (t : List (Entry Route)). Brings 0 1 table t told) (has_flag RTF_DYNAMIC r.value) (without r.key r.rank table) table
    (record { few_routes = omega (arith, none_less table table r.key r.rank, none_own table); few_messages = omega arith })
    (record { few_routes = omega (arith, none_own table); few_messages = omega arith })

pub losing_brings_none : LosingBringsNone
losing_brings_none address table = losing_none address table (best_of address table)
