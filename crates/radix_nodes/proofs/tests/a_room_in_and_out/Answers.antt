use Rattle.radix_nodes.proofs.Callers.{Has-lodged}
use Rattle.radix_nodes.proofs.tests.a_room_in_and_out.Goals as goal

pub evict-room-requires : goal.evict-room-requires
evict-room-requires g c = record { there = rw c.lodge-id.ensures.lodged.2 (Has-lodged _ _ _ _) }
