-- Sets of ranks by the bits of a number, of which the lowest is that of rank 33.
use Rattle.std.specs.Prelude.{◌≡◌, ℕ, ◌-◌, ◌<◌, ◌≤◌, Option, Some, None}
use Rattle.std.specs.Int.{bit_at}

abbrev pub HasRank : ℕ → ℕ → Type 0
HasRank ranks rank = (rank ≤ 33) × (bit_at ranks (33 - rank) ≡ 1)

-- it has no other bits
abbrev pub AreRanks : ℕ → Type 0
AreRanks bits = (i : ℕ) → 33 < i → bit_at bits i ≡ 0

-- the greatest rank of a set below a number, or none is below it
abbrev pub IsGreatestBelow : ℕ → ℕ → Option ℕ → Type 0
IsGreatestBelow number ranks None = (r : ℕ) → r < number → HasRank ranks r → ⊥
IsGreatestBelow number ranks (Some rank) =
    (rank < number) × HasRank ranks rank × ((r : ℕ) → rank < r → r < number → HasRank ranks r → ⊥)
