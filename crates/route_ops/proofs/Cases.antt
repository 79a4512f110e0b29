-- A look-up by cases.
use Rattle.std.proofs.Common.{◌≡◌, ℕ, Bool, true, false, List, [], ◌∷◌, ◌++◌, Option, Some, None, refl, ap, ◌∙◌}
use Rattle.std.specs.Prelude.{is_some, if◌then◌else◌, Result, Ok, Err}
use Rattle.sock_addrs.specs.declared.errno.Errno.{Errno}
use Rattle.sock_addrs.specs.declared.errno.Errno.TheVariants.{EEXIST}
use Rattle.sock_addrs.specs.declared.gate.Gate.TheVariants as gate
use Rattle.route_msgs.specs.declared.flags.TheConstants.{RTF_CLONING, RTF_XRESOLVE}
use Rattle.radix_tree.specs.Table.{best_of, entry_at, with_entry}
use Rattle.radix_tree.specs.declared.entry.Entry.{Entry}
use Rattle.route_entries.specs.Routes.{has_flag}
use Rattle.route_entries.specs.declared.route.Route.{Route}
use Rattle.route_ops.specs.LookLaws.{CloneIsAdded, CloneIsThere, LinkHasNoRoute, NoneAgrees, RouteIsKnown}
use Rattle.route_ops.specs.Looks.{Settled, clone_at, clone_or_parent, found_by, look_of, resolved, settle, unsettled}
use Rattle.route_ops.specs.declared.looking.Found.{Found}
use Rattle.route_ops.specs.declared.looking.Found.TheVariants.{Nothing, Known, NotCloned, Cloned}
use Rattle.route_ops.specs.declared.notice.Notice.{Notice}
use Rattle.route_ops.specs.declared.notice.Notice.TheVariants.{Resolve}

-- what is found, once the best route is known
found_is : (deep : Bool) (address : ℕ) (table : List (Entry Route)) (best : Option (Entry Route)) (it : Found) → best_of address table ≡ best → found_by address table best ≡ it
    → look_of deep (gate.Inet address) (found_by address table (best_of address table)) table ≡ look_of deep (gate.Inet address) it table
found_is deep address table best it is found =
    ap (λ (f : Found). look_of deep (gate.Inet address) f table) (ap (λ (o : Option (Entry Route)). found_by address table o) is ∙ found)

-- a look-up that adds no clone settles nothing
missed : (deep : Bool) (address : ℕ) (table : List (Entry Route)) → look_of deep (gate.Inet address) Nothing table ≡ look_of false (gate.Inet address) Nothing table
missed true address table = refl
missed false address table = refl

known_settles_nothing : (deep : Bool) (address : ℕ) (table : List (Entry Route)) (r : Entry Route) → look_of deep (gate.Inet address) (Known r) table ≡ look_of false (gate.Inet address) (Known r) table
known_settles_nothing true address table r = refl
known_settles_nothing false address table r = refl

not_cloned : (deep : Bool) (address : ℕ) (table : List (Entry Route)) (r : Entry Route)
    → look_of deep (gate.Inet address) (NotCloned r) table ≡ look_of false (gate.Inet address) (NotCloned r) table
not_cloned true address table r = refl
not_cloned false address table r = refl

pub link_has_no_route : LinkHasNoRoute
link_has_no_route true link table = refl
link_has_no_route false link table = refl

pub none_agrees : NoneAgrees
none_agrees deep address table is = found_is deep address table None Nothing is refl ∙ missed deep address table

-- a choice by a test whose answer is known
chosen : {X : Type 0} (b : Bool) (x y : X) → (b ≡ true → (if b then x else y) ≡ x) × (b ≡ false → (if b then x else y) ≡ y)
chosen true x y = (λ h. refl, λ h. absurd (differ h))
  where
    differ : true ≡ false → ⊥
    differ h = cc
chosen false x y = (λ h. absurd (differ h), λ h. refl)
  where
    differ : false ≡ true → ⊥
    differ h = cc

pub route_is_known : RouteIsKnown
route_is_known deep address table r is not_cloning =
    found_is deep address table (Some r) (Known r) is ((chosen (has_flag RTF_CLONING r.value) (clone_or_parent r (resolved address r.value table)) (Known r)).1 not_cloning)
    ∙ known_settles_nothing deep address table r

-- the choices of a route that clones
cloning : (address : ℕ) (table : List (Entry Route)) (r : Entry Route) (res : Result (Entry Route) Errno) → has_flag RTF_CLONING r.value ≡ true → resolved address r.value table ≡ res
    → found_by address table (Some r) ≡ clone_or_parent r res
cloning address table r res clones is =
    (chosen (has_flag RTF_CLONING r.value) (clone_or_parent r (resolved address r.value table)) (Known r)).0 clones
    ∙ ap (λ (x : Result (Entry Route) Errno). clone_or_parent r x) is

pub clone_is_there : CloneIsThere
clone_is_there deep address table r is clones there =
    let clone = clone_at address r.value in
    let res : Result (Entry Route) Errno = Err EEXIST in
    found_is deep address table (Some r) (NotCloned r) is
    (cloning address table r res clones ((chosen (is_some (entry_at clone.key clone.rank table)) res (Ok clone)).0 there))
    ∙ not_cloned deep address table r

added_deep : (deep : Bool) (address : ℕ) (table : List (Entry Route)) (clone : Entry Route)
    → let settled : Settled = if deep then settle clone.value (with_entry clone table) else unsettled (with_entry clone table) in
    let told : List Notice = if has_flag RTF_XRESOLVE clone.value then Resolve (gate.Inet address) ∷ [] else [] in
    look_of deep (gate.Inet address) (Cloned clone) table ≡ record { answer = Some clone; table = settled.table; messages = settled.messages ++ told }
added_deep true address table clone = refl
added_deep false address table clone = refl

pub clone_is_added : CloneIsAdded
clone_is_added deep address table r is clones absent =
    let clone = clone_at address r.value in
    let res : Result (Entry Route) Errno = Err EEXIST in
    found_is deep address table (Some r) (Cloned clone) is
    (cloning address table r (Ok clone) clones ((chosen (is_some (entry_at clone.key clone.rank table)) res (Ok clone)).1 absent))
    ∙ added_deep deep address table clone
