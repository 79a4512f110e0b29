use Rattle.std.proofs.Common.{◌∙◌, refl, sym}
use Rattle.radix_nodes.proofs.Bytes.{has_bytes}
use Rattle.radix_nodes.proofs.RoomLemmas.{free_is, starts_put, starts_seen, view_seen, view_lodged}
use Rattle.radix_nodes.proofs.RoomRows.{newest_there, names_start, last_there, row_more, seen_newer}
use Rattle.radix_nodes.proofs.nodes.Nodes.lodge.Goals as goal

pub apart-space-requires : goal.apart-space-requires
apart-space-requires g c = (c.self.invariant.1, has_bytes g.row.V)

pub of-requires-2 : goal.of-requires-2
of-requires-2 g c = names_start _ _ (λ room is. newest_there _ _ _ room is c.self.invariant.0) c.self.invariant.1

pub name_newer-requires-clause-there : goal.name_newer-requires-clause-there
name_newer-requires-clause-there g c =
    last_there _ _ _ c.put-id.result _ (rw (c.put-id.ensures.0, c.apart-space.ensures.0, c.apart-space.ensures.3) c.apart-space.ensures.2) c.put-id.ensures.1
    (rw c.apart-space.ensures.3 c.self.invariant.0)

pub invariant_of-self : goal.invariant_of-self
invariant_of-self g c = (
  row_more _ _ _ _ c.put-id.result _ (rw (c.put-id.ensures.0, c.apart-space.ensures.0, c.apart-space.ensures.3) c.apart-space.ensures.2) c.of.ensures c.of-2.ensures c.put-id.ensures.1
      c.name_newer.ensures (rw c.apart-space.ensures.3 c.self.invariant.0),
  starts_seen c.put-id.new.self.cells _ (seen_newer _ _ _ _ c.name_newer.ensures)
      (rw c.put-id.ensures.1 (starts_put _ _ _ (refl, rw (c.put-id.ensures.0, c.apart-space.ensures.0) c.apart-space.ensures.1) (rw c.apart-space.ensures.3 c.self.invariant.1))),
)

pub returns-clause-free : goal.returns-clause-free
returns-clause-free g c = rw (sym c.room.view_is) (free_is _ _ _ _ c.self.view_is c.apart-space.ensures.2)

pub returns-clause-lodged : goal.returns-clause-lodged
returns-clause-lodged g c = (
  c.blank.result,
  c.blank.ensures,
  view_seen _ _ _ (seen_newer _ _ _ _ c.name_newer.ensures) ∙ view_lodged _ _ _ _ c.put-id.result _ (rw c.apart-space.ensures.3 c.self.view_is) c.put-id.ensures.1,
)
