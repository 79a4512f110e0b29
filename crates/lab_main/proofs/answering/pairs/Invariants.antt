use Rattle.std.proofs.Common.{◌≡◌, map, take}
use Rattle.lab_main.specs.Pairs.{pair_of}
use Rattle.lab_main.proofs.answering.pairs.Given as goal

abbrev pub invariant-loop-route : goal.invariant-loop-route
invariant-loop-route l = record {
  pairs : l.pairs.items ≡ map pair_of (take l.route-index l.route-items);
  memory : l.memory ≡ l.initial.memory;
}
