use Rattle.std.proofs.Common.{◌≡◌, ◌+◌, ◌++◌, length}
use Rattle.std.specs.List.{AllByRecursion}
use Rattle.if_addrs.specs.Interfaces.{IsOf}
use Rattle.table_dump.specs.Dumps.{IsWhole, bytes_of, fitting, shown_of, size_of}
use Rattle.table_dump.proofs.dump.dump_into.Given as goal

-- what was given so far, and of what is still to come as much as fits what is left, is what is given of all
abbrev pub invariant-loop-key : goal.invariant-loop-key
invariant-loop-key l =
    let all = shown_of l.filter l.interfaces l.fn.table.entries in
    let rest = shown_of l.filter l.interfaces l.walk.rest in
    record {
      turn : l.visits.turn ≡ l.walk.turn;
      counter : l.visits.turn ≡ l.fn.visits.turn;
      memory : l.memory ≡ l.fn.memory;
      of : AllByRecursion (λ r. IsOf r.value.ifa l.interfaces) l.walk.rest;
      bytes : bytes_of (fitting l.room all) ≡ l.bytes.items ++ bytes_of (fitting l.left rest);
      size : l.left + size_of all ≡ l.room + size_of rest;
      whole : AllByRecursion IsWhole (fitting l.left rest) → AllByRecursion IsWhole (fitting l.room all);
    }

abbrev pub decreases-loop-key : goal.decreases-loop-key
decreases-loop-key l = length l.walk.rest
