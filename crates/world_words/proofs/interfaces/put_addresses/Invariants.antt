use Rattle.std.proofs.Common.{◌≡◌, ◌++◌, ◌-◌}
use Rattle.world_words.proofs.StandingAddresses.{count_at, lines_from}
use Rattle.world_words.proofs.interfaces.put_addresses.Given as goal

abbrev pub invariant-addresses : goal.invariant-addresses
invariant-addresses l =
    (l.text ++ lines_from l.place l.index l.world.interfaces ≡ l.initial.text ++ lines_from 0 l.index l.world.interfaces)
    × (l.memory ≡ l.initial.memory)

abbrev pub decreases-addresses : goal.decreases-addresses
decreases-addresses l = count_at l.index l.world.interfaces - l.place
