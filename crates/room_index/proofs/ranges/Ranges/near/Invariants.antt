use Rattle.std.proofs.Common.{◌≡◌, ◌+◌}
use Rattle.room_index.proofs.ranges.Ranges.near.Given as goal

-- a look at each slot so far
abbrev pub invariant-loop-beside : goal.invariant-loop-beside
invariant-loop-beside g l = l.visits ≡ record l.fn.visits { count = l.fn.visits.count + l.beside }
