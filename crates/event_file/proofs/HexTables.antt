-- What stands in the table of hexadecimal, the pairs of digits that are read by it, and the digits that are computed.
use Rattle.std.proofs.Common.{◌≡◌, ℕ, ◌+◌, ◌*◌, ◌/◌, ◌%◌, ◌<◌, ◌≤◌, ◌==◌, inl, inr, true, bit_and, bit_or, slice_index, Option, Some, None, unwrap_or, Ok, Err, refl, arith}
use Rattle.std.proofs.lemmas.Bool.{cases_lt, eqb-true}
use Rattle.sock_addrs.proofs.Below.{passes_at, passes_below}
use Rattle.hex.specs.Hex.{digit_or_error, hex_digit_value, lower_digits, pair_value, value_at, ◌>>=◌}
use Rattle.hex.specs.declared.error.FromHexError.{FromHexError}
use Rattle.hex.specs.declared.error.FromHexError.TheVariants.{InvalidHexCharacter}
use Rattle.event_file.specs.declared.hexadecimal.TheConstants.{NONE, VALUES}

-- the value of a byte as a digit, by the table
abbrev pub tabled : ℕ → ℕ
tabled byte = unwrap_or (hex_digit_value byte) NONE

values_hold : passes_below 256 (λ b. slice_index VALUES b == tabled b) ≡ true
unfolding passes_below
values_hold = refl

pub value_is : (byte : ℕ) → byte < 256 → slice_index VALUES byte ≡ tabled byte
value_is byte fits = eqb-true _ _ (passes_at 256 (λ b. slice_index VALUES b == tabled b) byte values_hold fits)

-- ---- digits that are computed

-- both digits of a byte, the first in the lower half
abbrev pub digits : ℕ → ℕ
digits byte =
    let values = bit_or (byte * 4096 % 65536) byte / 16 in
    values + 12336 + bit_and ((values + 1542) / 16) 257 * 39

firsts_hold : passes_below 256 (λ b. digits b % 256 == slice_index lower_digits (b / 16)) ≡ true
unfolding passes_below
firsts_hold = refl

pub first_is : (byte : ℕ) → byte < 256 → digits byte % 256 ≡ slice_index lower_digits (byte / 16)
first_is byte fits = eqb-true _ _ (passes_at 256 (λ b. digits b % 256 == slice_index lower_digits (b / 16)) byte firsts_hold fits)

seconds_hold : passes_below 256 (λ b. digits b / 256 % 256 == slice_index lower_digits (b % 16)) ≡ true
unfolding passes_below
seconds_hold = refl

pub second_is : (byte : ℕ) → byte < 256 → digits byte / 256 % 256 ≡ slice_index lower_digits (byte % 16)
second_is byte fits = eqb-true _ _ (passes_at 256 (λ b. digits b / 256 % 256 == slice_index lower_digits (b % 16)) byte seconds_hold fits)

-- ---- a pair of digits

digit_read : (byte at : ℕ) (value : Option ℕ) → unwrap_or value NONE < 256 → digit_or_error byte at value ≡ Ok (unwrap_or value NONE)
digit_read byte at (Some v) is = refl
digit_read byte at None is = absurd (omega (arith, is))

pub pair_read : (high low at : ℕ) → tabled high * 16 + tabled low ≤ 255 → pair_value high low at ≡ Ok (tabled high * 16 + tabled low)
pair_read high low at fits =
    let first = digit_read high at (hex_digit_value high) (omega (arith, fits)) in
    let second = digit_read low (at + 1) (hex_digit_value low) (omega (arith, fits)) in
    rw (first, second) refl

no_digit : (byte : ℕ) → 16 ≤ tabled byte → hex_digit_value byte ≡ None
no_digit byte large = grind (arith)

bad_first : (high low at : ℕ) → hex_digit_value high ≡ None → (e : FromHexError) × (pair_value high low at ≡ Err e)
bad_first high low at none = (InvalidHexCharacter high at, rw none refl)

bad_second : (high low at : ℕ) (value : Option ℕ) → hex_digit_value low ≡ None
    → (e : FromHexError) × ((digit_or_error high at value >>= (λ (h : ℕ). value_at low (at + 1) >>= (λ (l : ℕ). Ok (h * 16 + l)))) ≡ Err e)
bad_second high low at (Some v) none = (InvalidHexCharacter low (at + 1), rw none refl)
bad_second high low at None none = (InvalidHexCharacter high at, refl)

pub pair_refused : (high low at : ℕ) → 255 < tabled high * 16 + tabled low → (e : FromHexError) × (pair_value high low at ≡ Err e)
pair_refused high low at large =
    elim (cases_lt (tabled high) 16) [
      | inr none ↦ bad_first high low at (no_digit high none)
      | inl h ↦ elim (cases_lt (tabled low) 16) [
        | inr none ↦ bad_second high low at (hex_digit_value high) (no_digit low none)
        | inl l ↦ absurd (omega (arith, large, h, l))
      ]
    ]
