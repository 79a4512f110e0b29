-- Bytes that are given in a room of the caller's.
use Rattle.std.specs.Prelude.{ℕ, nat_le, if◌then◌else◌, List, ◌++◌, length, drop}

-- a room after these bytes were put to its front, which stays as it was where they don't all fit
abbrev pub given : List ℕ → List ℕ → List ℕ
given bytes room = if nat_le (length bytes) (length room) then bytes ++ drop (length bytes) room else room
