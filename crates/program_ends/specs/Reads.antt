-- How far a run has read.
use Rattle.std.specs.Prelude.{List, Option, length, ◌≤◌, ℕ}
use Rattle.std.specs.Io.KnownBytes.{Consumes}

-- at least this many bytes have been read, from a reader that had `before` and has `after` left
pub record HasRead (least : ℕ) (before after : Option (List ℕ)) : Type 0 where
  pub read : List ℕ
  pub consumes : Consumes before after read
  pub many : least ≤ length read
