use Rattle.std.proofs.Common.{◌≡◌}
use Rattle.core_tests.proofs.tests.plain.walks_over.Given as goal

abbrev pub invariant-loop-route : goal.invariant-loop-route
invariant-loop-route l = l.visits.turn ≡ l.walk.turn
