-- Blocks that are kept for routes.
use Rattle.std.specs.Prelude.{ℕ, ◌+◌, Option, Some, None}

-- how many there are
abbrev pub one_of : {T : Type 0} → Option T → ℕ
one_of None = 0
one_of (Some block) = 1

abbrev pub blocks_in : {T : Type 0} → Option T → Option T → ℕ
blocks_in first second = one_of first + one_of second
