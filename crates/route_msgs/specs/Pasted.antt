-- Bytes that are put into a room of the caller's.
use Rattle.std.specs.Prelude.{ℕ, ◌+◌, List, ◌++◌, length, take, drop}

-- a room after these bytes were put into it from a place on
abbrev pub pasted : ℕ → List ℕ → List ℕ → List ℕ
pasted at bytes room = take at room ++ bytes ++ drop (at + length bytes) room
