-- Ranks of routes: a route with a mask is ranked by its length, 0 to 32, and one without a mask is of rank 33.
use Rattle.std.specs.Prelude.{◌≡◌, ℕ, ◌≤◌, ◌==◌, if◌then◌else◌, Option, Some, None, unwrap_or}
use Rattle.std.specs.Option.{IfSome}

-- the rank of a route with this mask, or without one
abbrev pub rank_of : Option ℕ → ℕ
rank_of mask = unwrap_or mask 33

-- the mask of a route of this rank, where it has one
abbrev pub mask_of : ℕ → Option ℕ
mask_of rank = if rank == 33 then None else Some rank

-- a rank is that of its mask, and a mask is that of its rank
abbrev pub RankIsOfMask : Type 0
RankIsOfMask = (rank : ℕ) → rank ≤ 33 → rank_of (mask_of rank) ≡ rank

abbrev pub MaskIsOfRank : Type 0
MaskIsOfRank = (mask : Option ℕ) → IfSome mask (λ bits. bits ≤ 32) → mask_of (rank_of mask) ≡ mask
