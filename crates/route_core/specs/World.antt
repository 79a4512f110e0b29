-- The world that a script works on.
use Rattle.std.specs.Prelude.{List, []}
use Rattle.if_addrs.specs.Interfaces.{Interface}
use Rattle.listeners.specs.Sockets.{Socket}
use Rattle.radix_tree.specs.declared.entry.Entry.{Entry}
use Rattle.route_entries.specs.declared.route.Route.{Route}

-- a table of routes in table order, the interfaces in the order of their numbers, and the open sockets
pub record World : Type 0 where
  pub table : List (Entry Route)
  pub interfaces : List Interface
  pub sockets : List Socket

-- before the first command
abbrev pub empty_world : World
empty_world = record { table = []; interfaces = []; sockets = [] }
