use Rattle.radix_nodes.proofs.Callers.{Has-lodged, Has-written}
use Rattle.radix_nodes.proofs.Nested.{nested}
use Rattle.radix_nodes.proofs.tests.+nest.Goals as goal

pub set_links-requires : goal.set_links-requires
set_links-requires n c = record { there = rw c.lodge-id.ensures.lodged.2 (Has-lodged _ _ _ _) }

pub links-requires-clause-there : goal.links-requires-clause-there
links-requires-clause-there n c = rw c.begin-visits.ensures.turn
    (c.nest-inner.ensures c.lodge-id.result (rw (c.set_links.ensures, c.lodge-id.ensures.lodged.2) (Has-written _ _ _ _ (Has-lodged _ _ _ _) (Has-lodged _ _ _ _))))

pub evict-room-requires : goal.evict-room-requires
evict-room-requires n c = record {
  there = rw c.begin-visits.ensures.turn
      (c.nest-inner.ensures c.lodge-id.result (rw (c.set_links.ensures, c.lodge-id.ensures.lodged.2) (Has-written _ _ _ _ (Has-lodged _ _ _ _) (Has-lodged _ _ _ _))));
}

pub returns-in-Ok : goal.returns-in-Ok
returns-in-Ok n c = λ i h. rw (c.scrap.ensures, c.evict-room.ensures.evicted, c.begin-visits.ensures.turn)
    (nested _ _ c.lodge-id.result _ _ _ _ c.lodge-id.ensures.number c.in_ok-room.ensures.free
    (λ j there. c.nest-inner.ensures j (rw (c.set_links.ensures, c.lodge-id.ensures.lodged.2, c.in_ok-room.ensures.stays) there)) i h)

pub returns : goal.returns
returns n c = λ i h. rw (c.scrap.ensures, c.evict-room.ensures.evicted, c.begin-visits.ensures.turn)
    (nested _ _ c.lodge-id.result _ _ _ _ c.lodge-id.ensures.number c.in_ok-room.ensures.free
    (λ j there. c.nest-inner.ensures j (rw (c.set_links.ensures, c.lodge-id.ensures.lodged.2, c.in_ok-room.ensures.stays) there)) i h)
