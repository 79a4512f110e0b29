use Rattle.std.proofs.Common.{◌≡◌, drop}
use Rattle.std.specs.List.{find}
use Rattle.if_addrs.specs.Interfaces.{addresses_of}
use Rattle.if_addrs.specs.Wanted.{is_wanted}
use Rattle.if_addrs.proofs.interface.first.Given as goal

abbrev pub invariant-loop-interface : goal.invariant-loop-interface
invariant-loop-interface l = find (is_wanted l.wanted) (addresses_of (drop l.interface-index l.interfaces)) ≡ find (is_wanted l.wanted) (addresses_of l.interfaces)
