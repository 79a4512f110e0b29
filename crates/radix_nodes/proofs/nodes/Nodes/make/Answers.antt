use Rattle.std.proofs.Common.{sym}
use Rattle.radix_nodes.proofs.Bytes.{has_bytes}
use Rattle.radix_nodes.proofs.RoomLemmas.{free_is}
use Rattle.radix_nodes.proofs.nodes.Nodes.make.Goals as goal

pub apart-space-requires : goal.apart-space-requires
apart-space-requires g c = (c.self.invariant.1, has_bytes g.row.V)

pub invariant_of-self : goal.invariant_of-self
invariant_of-self g c = rw c.apart-space.ensures.3 c.self.invariant

pub returns-clause-free : goal.returns-clause-free
returns-clause-free g c = rw (c.apart-space.ensures.0, sym c.block.ensures.stays) (free_is _ _ _ _ c.self.view_is c.apart-space.ensures.2)
