-- A counter that exists in contracts alone.
use Rattle.std.specs.Prelude.{ℕ}

-- a counter's value: the turn of the map that it is of, and how many visits it has counted
pub record Counter : Type 0 where
  pub turn : ℕ
  pub count : ℕ
