-- Where a block is held.
use Rattle.std.specs.Prelude.{◌≡◌, ℕ, Some}
use Rattle.std.specs.Ordering.{nat_cmp}
use Rattle.std.specs.FinMap.{FinMap, get}
use denote.RawPtr.{Ptr, block_ptr}
use Rattle.radix_nodes.specs.Naming.{number_at}

-- the room of this number is held, and this is its block
pub record IsAt {T : Type 0} (cells : FinMap nat_cmp (Ptr × T)) (number : ℕ) (block : Ptr) : Type 0 where
  pub value : T
  pub at : get cells number ≡ Some (block, value)

-- this is the start of a block of memory
abbrev pub IsStart : Ptr → Type 0
IsStart p = (b : ℕ) × (p ≡ block_ptr b 0)

-- each block is held under the number that its place gives it, and begins there
abbrev pub AreStarts : {T : Type 0} → FinMap nat_cmp (Ptr × T) → Type 0
AreStarts {T} cells = (n : ℕ) (c : Ptr × T) → get cells n ≡ Some c → (n ≡ number_at c.0) × IsStart c.0
