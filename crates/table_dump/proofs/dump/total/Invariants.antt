use Rattle.std.proofs.Common.{◌≡◌, ◌+◌, ◌-◌, ◌≤◌, ◌^◌, length, min, List}
use Rattle.if_addrs.specs.Interfaces.{Interface}
use Rattle.table_dump.specs.Dumps.{shown_of, size_of, total_of}
use Rattle.table_dump.proofs.dump.total.Given as goal

-- the total so far and what is still to come are the total of all
abbrev pub invariant-loop-rank : goal.invariant-loop-rank
invariant-loop-rank l = record {
  turn : l.visits.turn ≡ l.walk.turn;
  counter : l.visits.turn ≡ l.fn.visits.turn;
  most : l.total ≤ 2 ^ 64 - 1;
  sum : (interfaces : List Interface) → min (l.total + size_of (shown_of l.filter interfaces l.walk.rest)) (2 ^ 64 - 1) ≡ total_of (shown_of l.filter interfaces l.fn.table.entries);
}

abbrev pub decreases-loop-rank : goal.decreases-loop-rank
decreases-loop-rank l = length l.walk.rest
