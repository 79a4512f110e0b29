use Rattle.std.proofs.Common.{Some, None}
use Rattle.radix_nodes.proofs.RoomRows.{newest_there, row_taken, row_ends, fewer}
use Rattle.radix_nodes.proofs.nodes.Nodes.drop.Goals as goal
use Rattle.radix_nodes.specs.Naming.{number_of}

pub loop-newest-init : goal.loop-newest-init
loop-newest-init g c = (None, c.self.invariant.0)

pub take-full-requires : goal.take-full-requires
take-full-requires g c = newest_there _ c.loop-newest.invariant.0 _ c.in-Some.id c.in-Some.is c.loop-newest.invariant.1

pub loop-newest-preserved : goal.loop-newest-preserved
loop-newest-preserved g c = (Some c.in-Some.id, rw c.name-newest.ensures (row_taken _ _ c.loop-newest.invariant.0 _ c.in-Some.id _ c.in-Some.is c.loop-newest.invariant.1 (c.take-full.ensures.0, c.take-full.ensures.2)))

pub loop-newest-smaller : goal.loop-newest-smaller
loop-newest-smaller g c = fewer _ _ (number_of c.in-Some.id) _ (c.take-full.ensures.0, c.take-full.ensures.2)

pub end-requires : goal.end-requires
end-requires g c = row_ends _ c.loop-newest.invariant.0 _ c.in_default.is c.loop-newest.invariant.1
