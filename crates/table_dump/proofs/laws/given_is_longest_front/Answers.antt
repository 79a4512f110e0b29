use Rattle.table_dump.proofs.Fronts.{given_fits, given_is_front, next_does_not_fit}
use Rattle.table_dump.proofs.laws.given_is_longest_front.Goals as goal

pub returns : goal.returns
returns c = record { front = given_is_front; fits = given_fits; longest = next_does_not_fit }
