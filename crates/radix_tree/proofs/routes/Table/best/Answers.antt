-- The best route stands in the table.
use Rattle.radix_tree.proofs.{LawLemmas.best_stands, Words.arith}
use Rattle.radix_tree.proofs.routes.Table.best.Goals as goal

pub returns-clause-stands : goal.returns-clause-stands
returns-clause-stands g c = best_stands c.args.address c.args.self.now.entries c.best.result c.is_table.ensures (grind arith)
