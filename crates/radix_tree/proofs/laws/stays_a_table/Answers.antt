use Rattle.radix_tree.proofs.TableLemmas.{with_is_table, without_is_table}
use Rattle.radix_tree.proofs.laws.stays_a_table.Goals as goal

pub returns : goal.returns
returns g c = record { with = with_is_table; without = without_is_table }
