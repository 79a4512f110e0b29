-- How many bytes an address takes in a message.
use Rattle.std.specs.Prelude.{◌≡◌, ℕ, ◌+◌, ◌*◌, ◌/◌, ◌%◌, ◌≤◌, max}

-- the bytes that an address takes whose length byte is this: whole words of four, and at least one
abbrev pub rounded : ℕ → ℕ
rounded n = (max n 1 + 3) / 4 * 4

-- m is the least multiple of 4 that is at least n, and at least 4
pub record IsLeastRoom (n m : ℕ) : Type 0 where
  pub words : m % 4 ≡ 0
  pub some : 4 ≤ m
  pub holds : n ≤ m
  pub least : (k : ℕ) → k % 4 ≡ 0 → 4 ≤ k → n ≤ k → m ≤ k

-- rounding gives that multiple, for each length byte
abbrev pub RoundingIsLeast : Type 0
RoundingIsLeast = (n : ℕ) → IsLeastRoom n (rounded n)
