-- How many routes are held of each rank: a list of numbers, of which the first is that of rank 0.
use Rattle.std.specs.Prelude.{◌≡◌, ℕ, ◌+◌, ◌≤◌, ◌==◌, if◌then◌else◌, List, slice_index}

-- how many are held of a rank
abbrev pub count_of : ℕ → List ℕ → ℕ
count_of rank counts = slice_index counts rank

-- no route is held
abbrev pub AreNone : List ℕ → Type 0
AreNone counts = (rank : ℕ) → rank ≤ 33 → count_of rank counts ≡ 0

-- the larger counts have one more of this rank, and of each other rank as many
abbrev pub HasOneMore : ℕ → List ℕ → List ℕ → Type 0
HasOneMore rank smaller larger =
    (r : ℕ) → r ≤ 33 → count_of r larger ≡ count_of r smaller + (if r == rank then 1 else 0)
