-- The route that a look-up answers stands in the table that it leaves.
use Rattle.std.proofs.Common.{◌≡◌, ℕ, Bool, true, false, List, Option, Some, None, refl, ap}
use Rattle.std.specs.Prelude.{IfSome, Ok, Err, if◌then◌else◌, is_none, is_some, ⊤}
use Rattle.sock_addrs.specs.declared.errno.Errno.TheVariants.{EEXIST}
use Rattle.sock_addrs.specs.declared.gate.Gate.{Gate}
use Rattle.sock_addrs.specs.declared.gate.Gate.TheVariants as gate
use Rattle.route_msgs.specs.declared.flags.TheConstants.{RTF_CLONING, RTF_GATEWAY}
use Rattle.radix_tree.specs.Table.{best_of, entry_at, has_pair, with_entry}
use Rattle.radix_tree.specs.declared.entry.Entry.{Entry}
use Rattle.radix_tree.proofs.MemberLemmas.{all_best_of, with_keeps_others, with_stands}
use Rattle.radix_tree.proofs.OrderLemmas.{is_pair, pair_is}
use Rattle.route_entries.specs.Routes.{has_flag}
use Rattle.route_entries.specs.declared.route.Route.{Route}
use Rattle.route_ops.specs.LookLaws.{AnswerIsThere}
use Rattle.route_ops.specs.Looks.{Settled, clone_at, clone_or_parent, found, found_by, look_of, settle, told_of, unsettled, with_clone}
use Rattle.route_ops.specs.declared.looking.Found.{Found}
use Rattle.route_ops.specs.declared.looking.Found.TheVariants.{Nothing, Known, NotCloned, Cloned}
use Rattle.route_ops.proofs.Bringing.{all_there}
use Rattle.route_ops.proofs.RedirectRefused.{either}

-- a route of this pair stands in the table
abbrev IsThere : List (Entry Route) → Entry Route → Type 0
IsThere table r = is_some (entry_at r.key r.rank table) ≡ true

some_there : (o : Option (Entry Route)) → is_none o ≡ false → is_some o ≡ true
some_there None h = cc
some_there (Some r) h = refl

best_there : (address : ℕ) (table : List (Entry Route)) (best : Option (Entry Route)) → best_of address table ≡ best
    → IfSome best (IsThere table)
best_there address table None e = tt
best_there address table (Some r) e =
    some_there (entry_at r.key r.rank table)
    (all_best_of (λ x. is_none (entry_at x.key x.rank table) ≡ false) address table r (all_there table) e)

-- what is there stays with another
with_there : (table : List (Entry Route)) (x r : Entry Route) → IsThere table r → IsThere (with_entry x table) r
with_there table x r h =
    elim (has_pair x.key x.rank r) as (λ b. has_pair x.key x.rank r ≡ b → IsThere (with_entry x table) r) [
      | true ↦ λ e. (let pair = pair_is x.key x.rank r e in rw (pair.0, pair.1, with_stands table x) refl)
      | false ↦ λ e. (
          let apart = with_keeps_others r.key r.rank table x
          (λ same. (let yes : has_pair x.key x.rank r ≡ true = is_pair x.key x.rank r same in cc)) in
          rw apart h)
    ] refl

clone_there : (it : Found) (table : List (Entry Route)) (r : Entry Route) → IsThere table r
    → IsThere (with_clone it table) r
clone_there Nothing table r h = h
clone_there (Known x) table r h = h
clone_there (NotCloned x) table r h = h
clone_there (Cloned x) table r h = with_there table x r h

settled_there : (v : Route) (table : List (Entry Route)) (r : Entry Route) → IsThere table r
    → IsThere (settle v table).table r
settled_there v table r h =
    let it = found v.gateway table in
    either (λ (s : Settled). IsThere s.table r) (has_flag RTF_GATEWAY v)
    (record { table = with_clone it table; messages = told_of v.gateway it }) (unsettled table)
    (clone_there it table r h) h

-- a route that is found without being cloned is there before
abbrev WasThere : List (Entry Route) → Found → Type 0
WasThere table (Known r) = IsThere table r
WasThere table (NotCloned r) = IsThere table r
WasThere table it = ⊤

parent_there : (table : List (Entry Route)) (r clone : Entry Route) (there : Bool) → IsThere table r
    → WasThere table (clone_or_parent r (if there then Err EEXIST else Ok clone))
parent_there table r clone true h = h
parent_there table r clone false h = tt

found_by_there : (address : ℕ) (table : List (Entry Route)) (best : Option (Entry Route)) → IfSome best (IsThere table)
    → WasThere table (found_by address table best)
found_by_there address table None h = tt
found_by_there address table (Some r) h =
    let clone = clone_at address r.value in
    either (WasThere table) (has_flag RTF_CLONING r.value) _ (Known r)
    (parent_there table r clone (is_some (entry_at clone.key clone.rank table)) h) h

found_there : (about : Gate) (table : List (Entry Route)) → WasThere table (found about table)
found_there (gate.Link text) table = tt
found_there (gate.Inet address) table =
    found_by_there address table (best_of address table) (best_there address table (best_of address table) refl)

look_there : (deep : Bool) (about : Gate) (table : List (Entry Route)) (it : Found) → WasThere table it
    → let l = look_of deep about it table in IfSome l.answer (IsThere l.table)
look_there deep about table Nothing h = tt
look_there true about table (Known r) h = h
look_there false about table (Known r) h = h
look_there true about table (NotCloned r) h = h
look_there false about table (NotCloned r) h = h
look_there true about table (Cloned r) h =
    settled_there r.value (with_entry r table) r (ap (λ (o : Option (Entry Route)). is_some o) (with_stands table r))
look_there false about table (Cloned r) h = ap (λ (o : Option (Entry Route)). is_some o) (with_stands table r)

pub answer_is_there : AnswerIsThere
answer_is_there deep about table = look_there deep about table (found about table) (found_there about table)
