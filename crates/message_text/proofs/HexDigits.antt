-- The digits of a byte that are computed are those of hexadecimal.
use Rattle.std.proofs.Common.{◌≡◌, ℕ, ◌+◌, ◌*◌, ◌/◌, ◌%◌, ◌<◌, ◌==◌, true, bit_and, bit_or, slice_index, refl}
use Rattle.std.proofs.lemmas.Bool.{eqb-true}
use Rattle.sock_addrs.proofs.Below.{passes_at, passes_below}
use Rattle.hex.specs.Hex.{lower_digits}

-- both digits of a byte, the first in the lower half
abbrev pub digits : ℕ → ℕ
digits byte =
    let values = bit_or (byte * 4096 % 65536) byte / 16 in
    values + 12336 + bit_and ((values + 1542) / 16) 257 * 39

firsts_hold : passes_below 256 (λ b. digits b % 256 == slice_index lower_digits (b / 16)) ≡ true
unfolding passes_below
firsts_hold = refl

pub first_is : (byte : ℕ) → byte < 256 → digits byte % 256 ≡ slice_index lower_digits (byte / 16)
first_is byte fits = eqb-true _ _ (passes_at 256 (λ b. digits b % 256 == slice_index lower_digits (b / 16)) byte firsts_hold fits)

seconds_hold : passes_below 256 (λ b. digits b / 256 % 256 == slice_index lower_digits (b % 16)) ≡ true
unfolding passes_below
seconds_hold = refl

pub second_is : (byte : ℕ) → byte < 256 → digits byte / 256 % 256 ≡ slice_index lower_digits (byte % 16)
second_is byte fits = eqb-true _ _ (passes_at 256 (λ b. digits b / 256 % 256 == slice_index lower_digits (b % 16)) byte seconds_hold fits)
