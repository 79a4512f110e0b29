use Rattle.std.proofs.Common.{◌≡◌, ◌++◌, length, map}
use Rattle.route_ops.specs.Standing.{AreOf}
use Rattle.route_core.specs.Told.{route_told}
use Rattle.route_core.proofs.told.tell_all.Given as goal

-- what was told so far, and what is told of the routes still to come, is what is told of all
abbrev pub invariant-loop-key : goal.invariant-loop-key
invariant-loop-key l = record {
  turn : l.visits.turn ≡ l.walk.turn;
  memory : l.memory ≡ l.fn.memory;
  of : AreOf l.interfaces l.walk.rest;
  told : map (route_told l.interfaces) l.fn.table.entries ≡ l.routes.items ++ map (route_told l.interfaces) l.walk.rest;
}

abbrev pub decreases-loop-key : goal.decreases-loop-key
decreases-loop-key l = length l.walk.rest
