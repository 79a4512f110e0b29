-- What follows from the definition of a dump.
use Rattle.std.specs.Prelude.{◌≡◌, ℕ, ◌+◌, ◌<◌, ◌≤◌, ◌^◌, List, ◌∷◌, ◌++◌, length, None}
use Rattle.table_dump.specs.Dumps.{dump_fault, fitting, size_of}

-- what is given is a front of all
pub record IsFront (given all : List (List ℕ)) : Type 0 where
  pub rest : List (List ℕ)
  pub whole : all ≡ given ++ rest

abbrev pub GivenIsFront : Type 0
GivenIsFront = (room : ℕ) (all : List (List ℕ)) → IsFront (fitting room all) all

-- it fits
abbrev pub GivenFits : Type 0
GivenFits = (room : ℕ) (all : List (List ℕ)) → size_of (fitting room all) ≤ room

-- and the next message would not have fitted
abbrev pub NextDoesNotFit : Type 0
NextDoesNotFit = (room : ℕ) (all rest : List (List ℕ)) (next : List ℕ) → all ≡ fitting room all ++ next ∷ rest
    → room < size_of (fitting room all) + length next

-- into as many bytes as all messages take, all are given, and nothing is refused
abbrev pub AllAreGiven : Type 0
AllAreGiven = (room : ℕ) (all : List (List ℕ)) → size_of all ≤ room
    → (fitting room all ≡ all) × (dump_fault room all ≡ None)

-- where nothing is refused, into fewer bytes than 2^32, all fit
abbrev pub UnrefusedAreAll : Type 0
UnrefusedAreAll = (room : ℕ) (all : List (List ℕ)) → room < 2 ^ 32 → dump_fault room all ≡ None → size_of all ≤ room
