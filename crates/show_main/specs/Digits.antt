-- The values of lower-case hexadecimal digits.
use Rattle.std.specs.Prelude.{ℕ, nat_le, ◌-◌, ◌&&◌, if◌then◌else◌, List, [], ◌∷◌, bytes_eq, codes, Option, Some, None}

-- the value of a digit; that of a byte that is none is larger
abbrev pub value_of : ℕ → ℕ
value_of byte =
    if nat_le 48 byte && nat_le byte 57 then byte - 48
    else if nat_le 97 byte && nat_le byte 102 then byte - 87
    else 255

-- what stands behind `msg ` on a line that begins so and goes on
abbrev pub behind_msg : List ℕ → Option (List ℕ)
behind_msg (m ∷ s ∷ g ∷ space ∷ b ∷ bs) =
    if bytes_eq (m ∷ s ∷ g ∷ space ∷ []) (codes "msg ") then Some (b ∷ bs) else None
behind_msg _ = None
