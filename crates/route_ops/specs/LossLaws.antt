-- What a report that a route seems dead leaves as it was, where there is no route.
use Rattle.std.specs.Prelude.{◌≡◌, ℕ, List, [], Some}
use Rattle.sock_addrs.specs.declared.errno.Errno.{Errno}
use Rattle.sock_addrs.specs.declared.errno.Errno.TheVariants.{EHOSTUNREACH}
use Rattle.radix_tree.specs.declared.entry.Entry.{Entry}
use Rattle.route_entries.specs.declared.route.Route.{Route}
use Rattle.route_ops.specs.Losses.{losing}
use Rattle.route_ops.specs.Upshot.{Upshot}

-- it leaves the table, and tells nothing
pub record IsUntold (table : List (Entry Route)) (it : Upshot) (errno : Errno) : Type 0 where
  pub kept : it.table ≡ table
  pub tells : it.messages ≡ []
  pub reason : errno ≡ EHOSTUNREACH

abbrev pub RefusedLosingKeeps : Type 0
RefusedLosingKeeps = (address : ℕ) (table : List (Entry Route)) (errno : Errno)
    → let it = losing address table in it.errno ≡ Some errno → IsUntold table it errno
