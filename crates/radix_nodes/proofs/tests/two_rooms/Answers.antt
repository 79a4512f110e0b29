use Rattle.radix_nodes.proofs.Callers.{Has-lodged, Has-put}
use Rattle.radix_nodes.proofs.tests.two_rooms.Goals as goal

pub same-itself-requires : goal.same-itself-requires
same-itself-requires g c = rw c.lodge-b.ensures.lodged.2 (record { a = Has-lodged _ _ _ _; b = Has-lodged _ _ _ _ })

pub same-other-requires-clause-a : goal.same-other-requires-clause-a
same-other-requires-clause-a g c = rw (c.same-itself.ensures.stays, c.lodge-b.ensures.lodged.2) (Has-lodged _ _ _ _)

pub same-other-requires-clause-b : goal.same-other-requires-clause-b
same-other-requires-clause-b g c = rw (c.same-itself.ensures.stays, c.lodge-b.ensures.lodged.2)
    (Has-put _ _ _ _ _ (rw c.lodge-b.ensures.number c.lodge-b.ensures.free) (rw (c.in_ok-room-2.ensures.stays, c.lodge-a.ensures.lodged.2) (Has-lodged _ _ _ _)))
