-- How far a run has come.
use Rattle.std.specs.Prelude.{◌≤◌, ℕ, List, Option, length}
use Rattle.std.specs.Io.KnownBytes.{Appends}
use Rattle.lab_main.specs.Ends.{Cut}
use Rattle.lab_main.specs.Telling.{State, Told, fresh}
use Rattle.lab_main.specs.declared.shows.Shows.{Shows}

-- lines were read, at least so many, and told, and this stands behind them
pub record Reached (least : ℕ) (o : Shows) (before after old new : Option (List ℕ)) (now : State)
    (behind : List ℕ) : Type 0 where
  pub lines : List (List ℕ)
  pub text : List ℕ
  pub cut : Cut before after lines behind
  pub told : Told o fresh lines text now
  pub appends : Appends old new text
  pub many : least ≤ length lines
