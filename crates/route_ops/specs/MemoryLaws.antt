-- Of themselves requests, redirects and losses are never refused for want of memory.
use Rattle.std.specs.Prelude.{◌≡◌, ◌≢◌, ℕ, false, List, Option, Some}
use Rattle.sock_addrs.specs.Errno.{is_no_memory}
use Rattle.sock_addrs.specs.declared.errno.Errno.TheVariants.{ENOBUFS}
use Rattle.if_addrs.specs.Interfaces.{Interface}
use Rattle.radix_tree.specs.declared.entry.Entry.{Entry}
use Rattle.route_entries.specs.declared.route.Route.{Route}
use Rattle.route_ops.specs.Adding.{add}
use Rattle.route_ops.specs.Changing.{change, lock}
use Rattle.route_ops.specs.Deleting.{route_to_show}
use Rattle.route_ops.specs.Losses.{losing}
use Rattle.route_ops.specs.Redirecting.{redirect}
use Rattle.route_ops.specs.declared.adding.NewRoute.{NewRoute}
use Rattle.route_ops.specs.declared.changing.Change.{Change}
use Rattle.route_ops.specs.declared.redirecting.NewGateway.{NewGateway}

abbrev pub AddingHasMemory : Type 0
AddingHasMemory = (a : NewRoute) (interfaces : List Interface) (table : List (Entry Route))
    → is_no_memory (add a interfaces table) ≡ false

abbrev pub ChangingHasMemory : Type 0
ChangingHasMemory = (a : Change) (interfaces : List Interface) (table : List (Entry Route))
    → is_no_memory (change a interfaces table) ≡ false

abbrev pub LockingHasMemory : Type 0
LockingHasMemory = (destination : ℕ) (netmask : Option ℕ) (inits locks : ℕ) (table : List (Entry Route))
    → is_no_memory (lock destination netmask inits locks table) ≡ false

abbrev pub ShowingHasMemory : Type 0
ShowingHasMemory = (destination : ℕ) (table : List (Entry Route))
    → is_no_memory (route_to_show destination table) ≡ false

abbrev pub RedirectHasMemory : Type 0
RedirectHasMemory = (a : NewGateway) (interfaces : List Interface) (table : List (Entry Route))
    → (redirect a interfaces table).errno ≢ Some ENOBUFS

abbrev pub LosingHasMemory : Type 0
LosingHasMemory = (address : ℕ) (table : List (Entry Route)) → (losing address table).errno ≢ Some ENOBUFS
