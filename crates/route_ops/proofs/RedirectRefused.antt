-- A redirect that is refused leaves the table, and tells alone that it came and why.
use Rattle.std.proofs.Common.{◌≡◌, ℕ, ◌==◌, Bool, true, false, not, List, [], ◌∷◌, inl, inr, refl, ap, subst}
use Rattle.std.specs.Prelude.{Option, Some, None, ok_or, Result, Ok, Err, IfErr, if◌then◌else◌, is_some}
use Rattle.sock_addrs.specs.declared.errno.Errno.{Errno}
use Rattle.sock_addrs.specs.declared.errno.Errno.TheVariants.{EEXIST, EHOSTUNREACH, EINVAL, ENETUNREACH}
use Rattle.sock_addrs.specs.declared.gate.Gate.TheVariants as gate
use Rattle.route_msgs.specs.declared.flags.TheConstants.{RTF_DYNAMIC, RTF_GATEWAY, RTF_HOST, RTF_MODIFIED}
use Rattle.if_addrs.specs.Interfaces.{Interface}
use Rattle.if_addrs.specs.Searches.{with_addr, with_net}
use Rattle.if_addrs.specs.declared.reference.IfaRef.{IfaRef}
use Rattle.radix_tree.specs.Table.{best_of, entry_at}
use Rattle.radix_tree.specs.declared.entry.Entry.{Entry}
use Rattle.route_entries.specs.Routes.{has_flag}
use Rattle.route_entries.specs.declared.route.Route.{Route}
use Rattle.route_ops.specs.Adding.{Adding, add, added, ifa_for, new_entry}
use Rattle.route_ops.specs.Looks.{unless_there}
use Rattle.route_ops.specs.RedirectLaws.{IsReason, IsRefusedFor, RefusedRedirectKeeps}
use Rattle.route_ops.specs.Redirecting.{dynamic, ended, is_of_another, judged, modified, redirect_by, redirect_told, verdict, verdict_near}
use Rattle.route_ops.specs.Refusing.{◌>>=◌}
use Rattle.route_ops.specs.Upshot.{Upshot}
use Rattle.route_ops.specs.declared.adding.NewRoute.{NewRoute}
use Rattle.route_ops.specs.declared.redirecting.NewGateway.{NewGateway}
use Rattle.route_ops.specs.declared.redirecting.Verdict.{Verdict}
use Rattle.route_ops.specs.declared.redirecting.Verdict.TheVariants.{Create, Modify}
use Rattle.route_ops.proofs.RefusingLemmas.{err_of_none, err_then}

-- what holds of both branches holds of the choice
pub either : {X : Type 0} (P : X → Type 0) (b : Bool) (x y : X) → P x → P y → P (if b then x else y)
either P true x y p q = p
either P false x y p q = q

unreachable_net : IsReason ENETUNREACH
unreachable_net = inl refl

invalid : IsReason EINVAL
invalid = inr (inl refl)

unreachable_host : IsReason EHOSTUNREACH
unreachable_host = inr (inr (inl refl))

there_already : IsReason EEXIST
there_already = inr (inr (inr refl))

-- why ADD is refused

there_reason : (r : Entry Route) (table : List (Entry Route)) → IfErr (unless_there r table) IsReason
there_reason r table =
    either (λ (t : Result (Entry Route) Errno). IfErr t IsReason) (is_some (entry_at r.key r.rank table)) (Err EEXIST)
    (Ok r) there_already tt

pub add_reason : (a : NewRoute) (interfaces : List Interface) (table : List (Entry Route))
    → IfErr (add a interfaces table) IsReason
add_reason a interfaces table =
    let ifa = ifa_for a interfaces table in
    let with_ifa : IfaRef → Result Adding Errno = λ i. unless_there (new_entry a i) table >>= (λ r. Ok (added r table)) in
    err_then IsReason (ok_or ifa ENETUNREACH) with_ifa (err_of_none IsReason ifa ENETUNREACH unreachable_net)
    (λ i. err_then IsReason (unless_there (new_entry a i) table) (λ r. Ok (added r table))
    (there_reason (new_entry a i) table) (λ r. tt))

-- why a redirect is, before anything is tried

abbrev VerdictReason : Result Verdict Errno → Type 0
VerdictReason v = IfErr v IsReason

judged_reason : (best : Option (Entry Route)) → VerdictReason (judged best)
judged_reason None = tt
judged_reason (Some r) =
    either VerdictReason (r.rank == 0) (Ok Create) _ tt
    (either VerdictReason (not (has_flag RTF_GATEWAY r.value)) (Err EHOSTUNREACH) _ unreachable_host
    (either VerdictReason (not (has_flag RTF_HOST r.value)) (Ok Create) (Ok (Modify r)) tt tt))

near_reason : (best : Option (Entry Route)) (a : NewGateway) (interfaces : List Interface) (near : IfaRef)
    → VerdictReason (verdict_near best a interfaces near)
near_reason best a interfaces near =
    either VerdictReason (is_of_another best a.author near) (Err EINVAL) _ invalid
    (either VerdictReason (is_some (with_addr (gate.Inet a.gateway) interfaces)) (Err EHOSTUNREACH) (judged best)
    unreachable_host (judged_reason best))

verdict_reason : (a : NewGateway) (interfaces : List Interface) (table : List (Entry Route))
    → VerdictReason (verdict a interfaces table)
verdict_reason a interfaces table =
    let near = with_net (gate.Inet a.gateway) interfaces in
    let best = best_of a.destination table in
    err_then IsReason (ok_or near ENETUNREACH) (verdict_near best a interfaces)
    (err_of_none IsReason near ENETUNREACH unreachable_net) (near_reason best a interfaces)

-- what it comes to then

abbrev Keeps : NewGateway → List (Entry Route) → Upshot → Type 0
Keeps a table it = (errno : Errno) → it.errno ≡ Some errno → IsRefusedFor a table it errno

ended_keeps : (a : NewGateway) (tried : ℕ) (table : List (Entry Route)) (res : Result Adding Errno)
    → IfErr res IsReason
    → Keeps a table (ended a tried table res)
ended_keeps a tried table (Ok it) reason errno is = absurd (cc)
ended_keeps a tried table (Err x) reason errno is =
    let same : x ≡ errno = cc in
    record {
      kept = refl;
      tried = tried;
      tells = ap (λ (e : Errno). redirect_told a tried (Some e) ∷ []) same;
      reason = subst IsReason same reason;
    }

by_keeps : (a : NewGateway) (interfaces : List Interface) (table : List (Entry Route)) (v : Result Verdict Errno)
    → VerdictReason v
    → Keeps a table (redirect_by a interfaces table v)
by_keeps a interfaces table (Err x) reason = ended_keeps a 0 table (Err x) reason
by_keeps a interfaces table (Ok Create) reason =
    ended_keeps a RTF_DYNAMIC table (add (dynamic a) interfaces table) (add_reason (dynamic a) interfaces table)
by_keeps a interfaces table (Ok (Modify r)) reason =
    ended_keeps a RTF_MODIFIED table (Ok (added (modified a.gateway r) table)) tt

pub refused_redirect_keeps : RefusedRedirectKeeps
refused_redirect_keeps a interfaces table =
    by_keeps a interfaces table (verdict a interfaces table) (verdict_reason a interfaces table)
