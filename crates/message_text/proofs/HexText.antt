-- The hexadecimal text of bytes that are written in pieces.
use Rattle.std.proofs.Common.{◌≡◌, ℕ, ◌+◌, ◌*◌, ◌<◌, ◌≤◌, List, [], ◌∷◌, ◌++◌, take, drop, length, refl, ap, sym, ◌∙◌, arith, take-append-drop, append-nil, true}
use Rattle.std.specs.Prelude.{slice_index, ◌/◌, ◌%◌, ◌==◌}
use Rattle.std.proofs.lemmas.Bool.{eqb-true}
use Rattle.std.proofs.lemmas.List.{append_assoc}
use Rattle.std.proofs.lemmas.Slice.{take-put_mid}
use borrow.Rule.Slice.PartMut.{put_mid}
use Rattle.hex.specs.Hex.{encode_with, encode_lower, lower_digits}
use Rattle.hex.proofs.Pairs.{encode_with-drop}

pub encode_nil : encode_lower [] ≡ []
unfolding encode_with
encode_nil = refl

pub encode_with-append : (t xs ys : List ℕ) → encode_with t (xs ++ ys) ≡ encode_with t xs ++ encode_with t ys
unfolding encode_with
encode_with-append t [] ys = refl
encode_with-append t (x ∷ xs) ys = ap (λ l. slice_index t (x / 16) ∷ slice_index t (x % 16) ∷ l) (encode_with-append t xs ys)

-- the text of the first bytes, and of the rest
pub encode_parted : (n : ℕ) (bytes : List ℕ) → encode_lower bytes ≡ encode_lower (take n bytes) ++ encode_lower (drop n bytes)
encode_parted n bytes = ap (λ l. encode_lower l) (sym (take-append-drop n bytes)) ∙ encode_with-append lower_digits (take n bytes) (drop n bytes)

-- where no byte is left, all digits stand
pub encode_all : (put whole rest : List ℕ) → (length rest == 0) ≡ true → put ++ encode_lower rest ≡ whole → put ≡ whole
encode_all put whole [] none e = sym (append-nil put) ∙ ap (λ l. put ++ l) (sym encode_nil) ∙ e
encode_all put whole (b ∷ rest) none e = absurd (omega (arith, eqb-true _ _ none))

two_of : (l : List ℕ) → length l ≡ 2 → l ≡ slice_index l 0 ∷ slice_index l 1 ∷ []
two_of (x ∷ y ∷ []) two = refl
two_of [] two = absurd (omega (arith, two))
two_of (x ∷ []) two = absurd (omega (arith, two))
two_of (x ∷ y ∷ z ∷ l) two = absurd (omega (arith, two))

-- the digits of one byte more are put behind those so far
pub encode_put : (bytes out pair : List ℕ) (i k : ℕ) → i < length bytes → 2 * i ≤ length out → length pair ≡ 2
    → slice_index pair 0 ≡ slice_index lower_digits (slice_index bytes i / 16) → slice_index pair 1 ≡ slice_index lower_digits (slice_index bytes i % 16)
    → take (2 * i) out ++ encode_lower (drop i bytes) ≡ encode_lower bytes
    → take (2 * (i + 1)) (put_mid (2 * i) k out pair) ++ encode_lower (drop (i + 1) bytes) ≡ encode_lower bytes
encode_put bytes out pair i k within room two high low so_far =
    let front = take-put_mid (2 * i) k out pair (2 * (i + 1)) (omega (arith, two)) room in
    let rest = encode_with-drop lower_digits bytes i within in
    let digits = two_of pair two in
    rw (front, append_assoc, digits, high, low) (rw rest at so_far)
