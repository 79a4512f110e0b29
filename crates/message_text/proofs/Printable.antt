-- Which bytes a text has: digits, hexadecimal digits, and such as are printed.
use Rattle.std.proofs.Common.{◌≡◌, ◌∙◌, ℕ, suc, ◌<◌, ◌/◌, ◌%◌, ◌^◌, Bool, true, ◌&&◌, ◌||◌, nat_le, List, [], ◌∷◌, ◌++◌, refl, arith, take, decimal}
use Rattle.std.specs.Prelude.{slice_index, zero}
use Rattle.std.specs.List.{list_all}
use Rattle.std.proofs.lemmas.Bool.{and_from, and_parts}
use Rattle.std.proofs.lemmas.List.Folds.{list_all-append}
use Rattle.hex.specs.Hex.{IsBytes, encode_lower, encode_with, lower_digits}
use Rattle.sock_addrs.proofs.Below.{passes_at, passes_below}
use Rattle.message_text.proofs.Numbers.{decimal_of_digits, hex_told, is_digit}
use Rattle.message_text.proofs.Parting.{parted, stops}

-- what passes one test passes another
pub weaker : (p q : ℕ → Bool) → ((b : ℕ) → p b ≡ true → q b ≡ true) → (s : List ℕ) → list_all p s ≡ true → list_all q s ≡ true
weaker p q so [] h = refl
weaker p q so (b ∷ s) h = and_from _ _ (so b (and_parts _ _ h).0) (weaker p q so s (and_parts _ _ h).1)

pub all_both : (p : ℕ → Bool) (s t : List ℕ) → list_all p s ≡ true → list_all p t ≡ true → list_all p (s ++ t) ≡ true
all_both p s t a b = list_all-append p s t ∙ and_from _ _ a b

-- ---- hexadecimal digits

abbrev pub is_hex : ℕ → Bool
is_hex b = is_digit b || nat_le 97 b && nat_le b 102

digits_are_hex : passes_below 16 (λ d. is_hex (slice_index lower_digits d)) ≡ true
unfolding passes_below
digits_are_hex = refl

hex_digit : (d : ℕ) → d < 16 → is_hex (slice_index lower_digits d) ≡ true
hex_digit d small = passes_at 16 (λ k. is_hex (slice_index lower_digits k)) d digits_are_hex small

pub hex_of_digits : (m : List ℕ) → IsBytes m → list_all is_hex (encode_lower m) ≡ true
unfolding encode_with
hex_of_digits [] are = refl
hex_of_digits (b ∷ m) are =
    let small : b < 256 = are 0 in
    let high : b / 16 < 16 = omega (arith, small) in
    let low : b % 16 < 16 = omega arith in
    and_from _ _ (hex_digit (b / 16) high) (and_from _ _ (hex_digit (b % 16) low) (hex_of_digits m (λ i. are (suc i))))

-- bytes in hexadecimal are told by their text, whatever follows that begins with no such digit
pub hex_parted : (a b x y : List ℕ) → IsBytes a → IsBytes b → stops is_hex x ≡ true → stops is_hex y ≡ true
    → encode_lower a ++ x ≡ encode_lower b ++ y → (a ≡ b) × (x ≡ y)
hex_parted a b x y p q c d e =
    let parts = parted is_hex (encode_lower a) (encode_lower b) x y (hex_of_digits a p) (hex_of_digits b q) c d e in
    (hex_told a b p q parts.0, parts.1)

-- ---- bytes that are printed

abbrev pub is_printed : ℕ → Bool
is_printed b = nat_le 32 b && nat_le b 126

digit_printed : (b : ℕ) → is_digit b ≡ true → is_printed b ≡ true
digit_printed b e = grind (arith, e)

hex_printed : (b : ℕ) → is_hex b ≡ true → is_printed b ≡ true
hex_printed b e = grind (arith, e)

pub printed_decimal : (n : ℕ) → n < 2 ^ 64 → list_all is_printed (decimal n) ≡ true
printed_decimal n small = weaker is_digit is_printed digit_printed (decimal n) (decimal_of_digits n small)

pub printed_hex : (m : List ℕ) → IsBytes m → list_all is_printed (encode_lower m) ≡ true
printed_hex m are = weaker is_hex is_printed hex_printed (encode_lower m) (hex_of_digits m are)

-- ---- bytes at the front of bytes

pub bytes_before : (k : ℕ) (m : List ℕ) → IsBytes m → IsBytes (take k m)
bytes_before zero m are i = omega arith
bytes_before (suc k) [] are i = are i
bytes_before (suc k) (b ∷ m) are zero = are 0
bytes_before (suc k) (b ∷ m) are (suc i) = bytes_before k m (λ j. are (suc j)) i
