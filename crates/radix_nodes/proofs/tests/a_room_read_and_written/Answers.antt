use Rattle.radix_nodes.proofs.Callers.{Has-lodged, Has-written}
use Rattle.radix_nodes.proofs.tests.a_room_read_and_written.Goals as goal

pub set_links-requires : goal.set_links-requires
set_links-requires g c = record { there = rw c.lodge-id.ensures.lodged.2 (Has-lodged _ _ _ _) }

pub links-requires-clause-there : goal.links-requires-clause-there
links-requires-clause-there g c = rw (c.begin-visits.ensures.turn, c.set_links.ensures, c.lodge-id.ensures.lodged.2) (Has-written _ _ _ _ (Has-lodged _ _ _ _) (Has-lodged _ _ _ _))

pub value-value-requires-clause-there : goal.value-value-requires-clause-there
value-value-requires-clause-there g c = rw (c.begin-visits.ensures.turn, c.set_links.ensures, c.lodge-id.ensures.lodged.2) (Has-written _ _ _ _ (Has-lodged _ _ _ _) (Has-lodged _ _ _ _))

pub value_mut-room-requires : goal.value_mut-room-requires
value_mut-room-requires g c = record { there = rw (c.begin-visits.ensures.turn, c.set_links.ensures, c.lodge-id.ensures.lodged.2) (Has-written _ _ _ _ (Has-lodged _ _ _ _) (Has-lodged _ _ _ _)) }
