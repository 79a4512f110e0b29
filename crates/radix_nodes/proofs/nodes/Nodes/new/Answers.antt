use Rattle.radix_nodes.proofs.RoomLemmas.{starts_none, view_new}
use Rattle.radix_nodes.proofs.RoomRows.{row_new}
use Rattle.radix_nodes.proofs.nodes.Nodes.new.Goals as goal

pub invariant_of-result : goal.invariant_of-result
invariant_of-result g c = (row_new _ c.new.ensures, starts_none _ c.new.ensures)

pub returns : goal.returns
returns g c = view_new _ _ c.zero.ensures c.new.ensures
