-- A number that exists in contracts alone.
use Rattle.std.specs.Prelude.{ℕ, ◌+◌, Option, Some, None}
use Rattle.std.specs.declared.snapshot.Snapshot.{Snapshot}

-- one more than the number that was before, or 0 where none was
abbrev pub after : Option (Snapshot ℕ) → ℕ
after None = 0
after (Some s) = s.value + 1
