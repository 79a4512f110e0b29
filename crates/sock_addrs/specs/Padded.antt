-- Bytes at the front of an array, with zeros behind them.
use Rattle.std.specs.Prelude.{◌≡◌, ℕ, ◌-◌, ◌≤◌, List, ◌++◌, length, take, drop, replicate}
use Rattle.std.proofs.lemmas.List.{length-take-le, take-append-drop}

-- of the n cells those past the first len are zeros
pub record IsPadded (n len : ℕ) (cells : List ℕ) : Type 0 where
  pub all : length cells ≡ n
  pub fits : len ≤ n
  pub zeros : drop len cells ≡ replicate (n - len) 0

-- bytes with zeros behind them, n cells in all
abbrev pub padded_to : ℕ → List ℕ → List ℕ
padded_to n bytes = bytes ++ replicate (n - length bytes) 0

-- the front is as long as is said
pub length-front : (n len : ℕ) (cells : List ℕ) → IsPadded n len cells → length (take len cells) ≡ len
length-front n len cells h = let fits : len ≤ length cells = rw h.all h.fits in length-take-le len cells fits

-- padding the front gives the cells back
pub padded_to-front : (n len : ℕ) (cells : List ℕ) → IsPadded n len cells → padded_to n (take len cells) ≡ cells
padded_to-front n len cells h = rw (length-front n len cells h, ← h.zeros) (take-append-drop len cells)
