use Rattle.std.proofs.Common.{◌≡◌, drop}
use Rattle.std.specs.List.{find}
use Rattle.if_addrs.specs.Wanted.{is_wanted}
use Rattle.if_addrs.proofs.address.first.Given as goal

abbrev pub invariant-loop-address : goal.invariant-loop-address
invariant-loop-address l = find (is_wanted l.wanted) (drop l.address-index l.addresses) ≡ find (is_wanted l.wanted) l.addresses
