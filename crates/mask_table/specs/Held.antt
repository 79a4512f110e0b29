-- Which ranks there are routes of.
use Rattle.std.specs.Prelude.{ℕ, ◌<◌, ◌≤◌, ◌↔◌, List}
use Rattle.mask_table.specs.Counts.{count_of}
use Rattle.mask_table.specs.RankSets.{HasRank}

-- the set has those ranks of which a route is held
abbrev pub AreHeld : ℕ → List ℕ → Type 0
AreHeld held counts = (rank : ℕ) → rank ≤ 33 → HasRank held rank ↔ (0 < count_of rank counts)
