-- What a command on the table comes to.
use Rattle.std.specs.Prelude.{List, Option}
use Rattle.sock_addrs.specs.declared.errno.Errno.{Errno}
use Rattle.radix_tree.specs.declared.entry.Entry.{Entry}
use Rattle.route_entries.specs.declared.route.Route.{Route}
use Rattle.route_ops.specs.declared.notice.Notice.{Notice}

-- the table after it, what is told, in order, and why it was refused, where it was
pub record Upshot : Type 0 where
  pub table : List (Entry Route)
  pub messages : List Notice
  pub errno : Option Errno
