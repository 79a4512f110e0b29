-- What a redirect that is refused leaves as it was, and what it tells.
use Rattle.std.specs.Prelude.{◌≡◌, ◌⊎◌, ℕ, List, [], ◌∷◌, Some}
use Rattle.sock_addrs.specs.declared.errno.Errno.{Errno}
use Rattle.sock_addrs.specs.declared.errno.Errno.TheVariants.{EEXIST, EHOSTUNREACH, EINVAL, ENETUNREACH}
use Rattle.if_addrs.specs.Interfaces.{Interface}
use Rattle.radix_tree.specs.declared.entry.Entry.{Entry}
use Rattle.route_entries.specs.declared.route.Route.{Route}
use Rattle.route_ops.specs.Redirecting.{redirect, redirect_told}
use Rattle.route_ops.specs.Upshot.{Upshot}
use Rattle.route_ops.specs.declared.redirecting.NewGateway.{NewGateway}

-- a reason to refuse one
abbrev pub IsReason : Errno → Type 0
IsReason errno = (errno ≡ ENETUNREACH) ⊎ ((errno ≡ EINVAL) ⊎ ((errno ≡ EHOSTUNREACH) ⊎ (errno ≡ EEXIST)))

-- it leaves the table, and tells alone that it came and why it was refused
pub record IsRefusedFor (a : NewGateway) (table : List (Entry Route)) (it : Upshot) (errno : Errno) : Type 0 where
  pub kept : it.table ≡ table
  pub tried : ℕ
  pub tells : it.messages ≡ redirect_told a tried (Some errno) ∷ []
  pub reason : IsReason errno

abbrev pub RefusedRedirectKeeps : Type 0
RefusedRedirectKeeps = (a : NewGateway) (interfaces : List Interface) (table : List (Entry Route)) (errno : Errno)
    → let it = redirect a interfaces table in it.errno ≡ Some errno → IsRefusedFor a table it errno
