-- How little one call brings: at most two routes, and at most two messages.
use Rattle.std.specs.Prelude.{◌≡◌, ℕ, ◌+◌, ◌≤◌, true, false, List, length, Option, Ok, is_some}
use Rattle.sock_addrs.specs.declared.gate.Gate.{Gate}
use Rattle.if_addrs.specs.Interfaces.{Interface}
use Rattle.radix_tree.specs.Table.{entry_at, with_entry, without}
use Rattle.radix_tree.specs.declared.entry.Entry.{Entry}
use Rattle.route_entries.specs.declared.route.Route.{Route}
use Rattle.route_ops.specs.Adding.{Adding, add}
use Rattle.route_ops.specs.Changing.{change, lock}
use Rattle.route_ops.specs.Looks.{look, settle}
use Rattle.route_ops.specs.Losses.{losing}
use Rattle.route_ops.specs.Redirecting.{redirect}
use Rattle.route_ops.specs.Standing.{brought}
use Rattle.route_ops.specs.declared.adding.NewRoute.{NewRoute}
use Rattle.route_ops.specs.declared.changing.Change.{Change}
use Rattle.route_ops.specs.declared.notice.Notice.{Notice}
use Rattle.route_ops.specs.declared.redirecting.NewGateway.{NewGateway}

-- the new table has at most so many routes at pairs at which the old one has none, and the messages are at most so many
pub record Brings (routes messages : ℕ) (old new : List (Entry Route)) (told : List Notice) : Type 0 where
  pub few_routes : brought old new ≤ routes
  pub few_messages : length told ≤ messages

abbrev pub DeepLookBringsTwo : Type 0
DeepLookBringsTwo = (about : Gate) (table : List (Entry Route))
    → let it = look true about table in Brings 2 2 table it.table it.messages

abbrev pub LookBringsOne : Type 0
LookBringsOne = (about : Gate) (table : List (Entry Route))
    → let it = look false about table in Brings 1 1 table it.table it.messages

abbrev pub SettlingBringsOne : Type 0
SettlingBringsOne = (r : Route) (table : List (Entry Route))
    → let it = settle r table in Brings 1 1 table it.table it.messages

abbrev pub AddingBringsTwo : Type 0
AddingBringsTwo = (a : NewRoute) (interfaces : List Interface) (table : List (Entry Route)) (it : Adding)
    → add a interfaces table ≡ Ok it → Brings 2 1 table it.table it.messages

abbrev pub ChangingBringsOne : Type 0
ChangingBringsOne = (a : Change) (interfaces : List Interface) (table : List (Entry Route)) (it : Adding)
    → change a interfaces table ≡ Ok it → Brings 1 1 table it.table it.messages

abbrev pub LockingBringsNone : Type 0
LockingBringsNone = (destination : ℕ) (netmask : Option ℕ) (inits locks : ℕ)
    (table : List (Entry Route)) (r : Entry Route)
    → lock destination netmask inits locks table ≡ Ok r → brought table (with_entry r table) ≡ 0

abbrev pub RedirectBringsTwo : Type 0
RedirectBringsTwo = (a : NewGateway) (interfaces : List Interface) (table : List (Entry Route))
    → let it = redirect a interfaces table in Brings 2 2 table it.table it.messages

abbrev pub LosingBringsNone : Type 0
LosingBringsNone = (address : ℕ) (table : List (Entry Route))
    → let it = losing address table in Brings 0 1 table it.table it.messages

-- a table brings nothing to itself, nor by what is taken out of it or written anew, and one route that is put into it
-- is at most one
abbrev pub TableBringsNone : Type 0
TableBringsNone = (table : List (Entry Route)) → brought table table ≡ 0

abbrev pub OneMoreAtMost : Type 0
OneMoreAtMost = (old table : List (Entry Route)) (r : Entry Route)
    → brought old (with_entry r table) ≤ brought old table + 1

abbrev pub NoneWrittenAnew : Type 0
NoneWrittenAnew = (old table : List (Entry Route)) (r : Entry Route) → is_some (entry_at r.key r.rank table) ≡ true
    → brought old (with_entry r table) ≤ brought old table

abbrev pub NoneTakenOut : Type 0
NoneTakenOut = (old table : List (Entry Route)) (key rank : ℕ)
    → brought old (without key rank table) ≤ brought old table
