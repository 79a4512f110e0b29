use Rattle.std.proofs.Common.{◌≡◌, drop, filter}
use Rattle.std.specs.Prelude.{option_map}
use Rattle.if_addrs.specs.Searches.{longest}
use Rattle.if_addrs.specs.Wanted.{is_wanted, better}
use Rattle.if_addrs.proofs.address.longest.Given as goal

abbrev pub invariant-loop-address : goal.invariant-loop-address
invariant-loop-address l = better (option_map (λ a. a.now) l.best) (longest (filter (is_wanted l.wanted) (drop l.address-index l.addresses))) ≡ longest (filter (is_wanted l.wanted) l.addresses)
