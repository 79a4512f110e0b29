use Rattle.table_dump.proofs.Fronts.{all_are_given, unrefused_are_all}
use Rattle.table_dump.proofs.laws.all_are_given.Goals as goal

pub returns : goal.returns
returns c = record { given = all_are_given; unrefused = unrefused_are_all }
