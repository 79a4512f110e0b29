use Rattle.std.proofs.Common.{Option}
use Rattle.std.specs.FinMap.{len}
use Rattle.radix_nodes.specs.Row.{AreRow}
use Rattle.radix_nodes.specs.declared.id.Id.{Id}
use Rattle.radix_nodes.proofs.nodes.Nodes.drop.Given as goal

abbrev pub invariant-loop-newest : goal.invariant-loop-newest
invariant-loop-newest g l = (newer : Option Id) × AreRow l.blocks.cells newer l.newest

abbrev pub decreases-loop-newest : goal.decreases-loop-newest
decreases-loop-newest g l = len l.blocks.cells
