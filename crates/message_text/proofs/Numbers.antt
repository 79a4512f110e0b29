-- A number that is printed is told by its text, whatever follows behind the byte that ends it.
use Rattle.std.proofs.Common.{◌≡◌, ◌∙◌, ℕ, ◌<◌, ◌+◌, ◌%◌, ◌^◌, Bool, true, ◌&&◌, nat_le, List, [], ◌∷◌, ◌++◌, refl, sym, ap, arith, decimal, Ok}
use Rattle.std.specs.List.{list_all}
use Rattle.std.proofs.lemmas.Fmt.{decimal_by_steps, decimal_injective}
use Rattle.std.proofs.lemmas.List.Folds.{list_all-append}
use Rattle.std.specs.Prelude.{Result}
use Rattle.hex.specs.declared.error.FromHexError.{FromHexError}
use Rattle.hex.specs.Hex.{IsBytes, decode_of, encode_lower}
use Rattle.hex.proofs.HexLemmas.{decode_of-encode_lower}
use Rattle.message_text.proofs.Parting.{parted, stops}

abbrev pub is_digit : ℕ → Bool
is_digit b = nat_le 48 b && nat_le b 57

is_digit-glyph : (d : ℕ) → d < 10 → is_digit (48 + d) ≡ true
is_digit-glyph d small = grind arith

all-and : (x y : Bool) → x ≡ true → y ≡ true → (x && y) ≡ true
all-and x y a b = rw (a, b) refl

-- a decimal has digits alone
pub decimal_of_digits : (n : ℕ) → n < 2 ^ 64 → list_all is_digit (decimal n) ≡ true
decimal_of_digits n small = decimal_by_steps (λ _ ds. list_all is_digit ds ≡ true)
    (λ k few. all-and (is_digit (48 + k)) true (is_digit-glyph k few) refl)
    (λ k ds big before.
    let low : k % 10 < 10 = omega arith in
    list_all-append is_digit ds ((48 + k % 10) ∷ [])
    ∙ all-and (list_all is_digit ds) (is_digit (48 + k % 10) && true) before
    (all-and (is_digit (48 + k % 10)) true (is_digit-glyph (k % 10) low) refl))
    n small

pub decimal_told : (n k : ℕ) (x y : List ℕ) → n < 2 ^ 32 → k < 2 ^ 32 → stops is_digit x ≡ true → stops is_digit y ≡ true
    → decimal n ++ x ≡ decimal k ++ y → (n ≡ k) × (x ≡ y)
decimal_told n k x y a b c d e =
    let parts = parted is_digit (decimal n) (decimal k) x y
    (decimal_of_digits n (omega arith)) (decimal_of_digits k (omega arith)) c d e in
    (decimal_injective n k (omega arith) (omega arith) parts.0, parts.1)

-- ---- hexadecimal

inside : (a b : List ℕ) → ◌≡◌ {A = Result (List ℕ) FromHexError} (Ok a) (Ok b) → a ≡ b
inside a b e = cc

pub hex_told : (a b : List ℕ) → IsBytes a → IsBytes b → encode_lower a ≡ encode_lower b → a ≡ b
hex_told a b bytes too e =
    inside a b (sym (decode_of-encode_lower a bytes) ∙ ap (λ (t : List ℕ). decode_of t) e ∙ decode_of-encode_lower b too)
