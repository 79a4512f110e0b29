-- Lower-case hexadecimal digits that are read pair by pair.
use Rattle.std.proofs.Common.{◌≡◌, ◌∙◌, ℕ, ◌+◌, ◌*◌, ◌%◌, ◌<◌, ◌≤◌, true, false, Bool, ◌&&◌, List, length, take, Some, Ok, refl, ap, arith}
use Rattle.std.specs.Prelude.{slice_index}
use Rattle.std.specs.List.{list_all}
use Rattle.std.proofs.lemmas.List.Folds.{list_all_more}
use Rattle.hex.specs.Hex.{decode_of, decode_pairs, hex_digit_value, pair_value}
use Rattle.show_main.specs.Digits.{value_of}
use Rattle.show_main.specs.Shown.{is_lower_digit}

pub digit_read : (byte : ℕ) → value_of byte < 16 → is_lower_digit byte ≡ true
digit_read byte small = grind arith

pub digit_refused : (byte : ℕ) → 16 ≤ value_of byte → is_lower_digit byte ≡ false
digit_refused byte large = grind arith

digit_value : (byte : ℕ) → value_of byte < 16 → hex_digit_value byte ≡ Some (value_of byte)
digit_value byte small = grind arith

pub pair_read : (high low at : ℕ) → value_of high < 16 → value_of low < 16
    → pair_value high low at ≡ Ok (value_of high % 16 * 16 + value_of low % 16)
pair_read high low at h l =
    let same : value_of high % 16 ≡ value_of high = omega (arith, h) in
    let same_too : value_of low % 16 ≡ value_of low = omega (arith, l) in
    rw (same, same_too, digit_value high h, digit_value low l) refl

both : (a b : Bool) → a ≡ true → b ≡ true → (a && b) ≡ true
both a b h k = rw (h, k) refl

-- two digits more
pub all_more : (digits : List ℕ) (i : ℕ) → 2 * i + 1 < length digits → is_lower_digit (slice_index digits (2 * i)) ≡ true
    → is_lower_digit (slice_index digits (2 * i + 1)) ≡ true → list_all is_lower_digit (take (2 * i) digits) ≡ true
    → list_all is_lower_digit (take (2 * (i + 1)) digits) ≡ true
all_more digits i within high low before =
    let two : 2 * (i + 1) ≡ 2 * i + 1 + 1 = omega arith in
    let first : list_all is_lower_digit (take (2 * i + 1) digits) ≡ true =
    list_all_more is_lower_digit digits (2 * i) 0 (omega (arith, within)) ∙ both _ _ before high in
    ap (λ (n : ℕ). list_all is_lower_digit (take n digits)) two
    ∙ list_all_more is_lower_digit digits (2 * i + 1) 0 within ∙ both _ _ first low

pub decode_even : (digits : List ℕ) (n : ℕ) → length digits ≡ 2 * n → decode_of digits ≡ decode_pairs 0 digits
decode_even digits n even = grind arith
