use Rattle.radix_tree.proofs.{Kept.shown_table, Words.arith}
use Rattle.radix_tree.proofs.laws.is_table.Goals as goal

pub returns : goal.returns
returns g c = grind (arith, shown_table)
