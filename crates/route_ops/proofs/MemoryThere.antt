-- Why requests, redirects and losses are refused is never want of memory.
use Rattle.std.proofs.Common.{◌≡◌, ℕ, ◌==◌, true, false, List, inl, inr, refl}
use Rattle.std.specs.Prelude.{Option, ok_or, Result, Ok, Err, IfErr, if◌then◌else◌}
use Rattle.sock_addrs.specs.Errno.{is_no_memory}
use Rattle.sock_addrs.specs.declared.errno.Errno.{Errno}
use Rattle.sock_addrs.specs.declared.errno.Errno.TheVariants.{ENOBUFS, ESRCH, ETOOMANYREFS}
use Rattle.mask_table.specs.Ranks.{rank_of}
use Rattle.radix_tree.specs.Table.{best_of, entry_at}
use Rattle.radix_tree.specs.declared.entry.Entry.{Entry}
use Rattle.route_entries.specs.declared.route.Route.{Route}
use Rattle.route_ops.specs.Adding.{add}
use Rattle.route_ops.specs.Changing.{change, changed_entry, lock, locked, rewritten, target}
use Rattle.route_ops.specs.MemoryLaws.{AddingHasMemory, ChangingHasMemory, LockingHasMemory, LosingHasMemory, RedirectHasMemory, ShowingHasMemory}
use Rattle.route_ops.specs.RedirectLaws.{IsReason}
use Rattle.route_ops.proofs.LossRefused.{refused_losing_keeps}
use Rattle.route_ops.proofs.RedirectRefused.{add_reason, either, refused_redirect_keeps}
use Rattle.route_ops.proofs.RefusingLemmas.{err_of_none, err_then, err_weaker}

-- the errno is of another reason
abbrev IsOther : Errno → Type 0
IsOther e = let refused : Result ℕ Errno = Err e in is_no_memory refused ≡ false

has_memory : {A : Type 0} (r : Result A Errno) → IfErr r IsOther → is_no_memory r ≡ false
has_memory (Ok x) other = refl
has_memory (Err e) other = other

reason_is_other : (e : Errno) → IsReason e → IsOther e
reason_is_other e (inl is) = rw is refl
reason_is_other e (inr (inl is)) = rw is refl
reason_is_other e (inr (inr (inl is))) = rw is refl
reason_is_other e (inr (inr (inr is))) = rw is refl

pub adding_has_memory : AddingHasMemory
adding_has_memory a interfaces table =
    has_memory (add a interfaces table)
    (err_weaker IsReason IsOther (add a interfaces table) reason_is_other (add_reason a interfaces table))

-- CHANGE and LOCK are refused by what finds their route alone
target_is_other : (destination : ℕ) (netmask : Option ℕ) (table : List (Entry Route)) → IfErr (target destination netmask table) IsOther
target_is_other destination netmask table =
    let best = best_of destination table in
    let asked = entry_at destination (rank_of netmask) table in
    let of_key : Entry Route → Result (Entry Route) Errno =
    λ r. (if r.key == destination then ok_or asked ETOOMANYREFS else Err ESRCH) in
    err_then IsOther (ok_or best ESRCH) of_key (err_of_none IsOther best ESRCH refl)
    (λ r. either (λ (t : Result (Entry Route) Errno). IfErr t IsOther) (r.key == destination) (ok_or asked ETOOMANYREFS)
    (Err ESRCH) (err_of_none IsOther asked ETOOMANYREFS refl) refl)

pub changing_has_memory : ChangingHasMemory
changing_has_memory a interfaces table =
    has_memory (change a interfaces table)
    (err_then IsOther (target a.destination a.netmask table)
    (λ r. Ok (rewritten a.gateway (changed_entry a interfaces table r) table))
    (target_is_other a.destination a.netmask table) (λ r. tt))

pub locking_has_memory : LockingHasMemory
locking_has_memory destination netmask inits locks table =
    has_memory (lock destination netmask inits locks table)
    (err_then IsOther (target destination netmask table) (λ r. Ok (locked inits locks r))
    (target_is_other destination netmask table) (λ r. tt))

pub showing_has_memory : ShowingHasMemory
showing_has_memory destination table =
    let best = best_of destination table in has_memory (ok_or best ESRCH) (err_of_none IsOther best ESRCH refl)

true_is_not_false : true ≡ false → ⊥
true_is_not_false is = cc

pub redirect_has_memory : RedirectHasMemory
redirect_has_memory a interfaces table is =
    true_is_not_false (reason_is_other ENOBUFS (refused_redirect_keeps a interfaces table ENOBUFS is).reason)

pub losing_has_memory : LosingHasMemory
losing_has_memory address table is = let reason = (refused_losing_keeps address table ENOBUFS is).reason in cc
