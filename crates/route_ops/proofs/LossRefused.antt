-- Where there is no route that could seem dead, the table stays and nothing is told.
use Rattle.std.proofs.Common.{◌≡◌, ℕ, List, refl}
use Rattle.std.specs.Prelude.{Option, Some, None}
use Rattle.sock_addrs.specs.declared.errno.Errno.{Errno}
use Rattle.sock_addrs.specs.declared.errno.Errno.TheVariants.{EHOSTUNREACH}
use Rattle.radix_tree.specs.Table.{best_of}
use Rattle.radix_tree.specs.declared.entry.Entry.{Entry}
use Rattle.route_entries.specs.declared.route.Route.{Route}
use Rattle.route_ops.specs.Losses.{losing_by}
use Rattle.route_ops.specs.LossLaws.{IsUntold, RefusedLosingKeeps}

by_keeps : (address : ℕ) (table : List (Entry Route)) (best : Option (Entry Route)) (errno : Errno)
    → let it = losing_by address table best in it.errno ≡ Some errno → IsUntold table it errno
by_keeps address table None errno is =
    let same : EHOSTUNREACH ≡ errno = cc in record { kept = refl; tells = refl; reason = cc }
by_keeps address table (Some r) errno is = absurd (cc)

pub refused_losing_keeps : RefusedLosingKeeps
refused_losing_keeps address table errno = by_keeps address table (best_of address table) errno
