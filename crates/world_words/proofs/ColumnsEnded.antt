-- A word in a column, put piece by piece.
use Rattle.std.proofs.Common.{◌≡◌, ◌-◌, ℕ, List, ◌++◌, length, replicate, codes, append_assoc, length-append, arith}
use Rattle.lab_text.specs.Words.{column}

behind : (t w : List ℕ) → length (t ++ w) - length t ≡ length w
behind t w = omega (arith, length-append t w)

pub column_ended : (t w : List ℕ) (width : ℕ)
    → (t ++ w) ++ replicate (width - (length (t ++ w) - length t)) 32 ++ codes " " ≡ t ++ column width w
column_ended t w width = rw behind (simp append_assoc)
