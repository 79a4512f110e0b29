use Rattle.radix_nodes.proofs.Callers.{Has-lodged}
use Rattle.radix_nodes.proofs.tests.a_room_that_is_kept.Goals as goal

pub value-requires-clause-there : goal.value-requires-clause-there
value-requires-clause-there g c = rw (c.begin-visits.ensures.turn, c.lodge-id.ensures.lodged.2) (Has-lodged _ _ _ _)
