use Rattle.std.proofs.Common.{◌≡◌, drop, filter}
use Rattle.std.specs.Prelude.{option_map}
use Rattle.if_addrs.specs.Interfaces.{addresses_of}
use Rattle.if_addrs.specs.Searches.{longest}
use Rattle.if_addrs.specs.Wanted.{is_wanted, better}
use Rattle.if_addrs.proofs.interface.longest.Given as goal

abbrev pub invariant-loop-interface : goal.invariant-loop-interface
invariant-loop-interface l =
    better (option_map (λ a. a.now) l.best) (longest (filter (is_wanted l.wanted) (addresses_of (drop l.interface-index l.interfaces)))) ≡ longest (filter (is_wanted l.wanted) (addresses_of l.interfaces))
