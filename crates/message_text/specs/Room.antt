-- A text that is put into a room piece by piece, and taken from there where the room is full.
use Rattle.std.specs.Prelude.{ℕ, List, take, ◌++◌}

-- what stands in a room up to a place
unfoldable pub written : List ℕ → ℕ → List ℕ
written room end = take end room

-- what was taken from the room before, and what stands in it up to a place
abbrev pub so_far : List ℕ → List ℕ → ℕ → List ℕ
so_far taken room end = taken ++ written room end
