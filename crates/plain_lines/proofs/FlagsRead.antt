-- The word that is written for flags is read as these flags.
use Rattle.std.proofs.Common.{◌≡◌, ◌<◌, ◌≤◌, ◌∙◌, ◌-◌, ◌^◌, ◌&&◌, ℕ, zero, suc, Bool, true, false, cond, List, [], ◌∷◌, ◌++◌, length, replicate, bytes_eq, refl, sym, ap, subst, arith, nat_lt, nat_le, bit_or, ◌==◌, Option, Some, None}
use Rattle.std.specs.Prelude.{if◌then◌else◌}
use Rattle.std.specs.Int.{w16, w32, byte_at, from_be_bytes, to_be_bytes}
use Rattle.std.proofs.lemmas.Bool.{and_parts, eqb-true, le-leb, ltb-true}
use Rattle.std.proofs.lemmas.Nat.{from_be_bytes-to_be_bytes_2, or_of_16}
use Rattle.hex.specs.Hex.{IsBytes, encode_lower, encode_with, lower_digits}
use Rattle.hex.proofs.HexLemmas.{decode_of-encode_lower, length-encode_with}
use Rattle.event_file.specs.Words.{◌>>=◌, hex_number_of, parted_by}
use Rattle.message_text.specs.Names.{Named, flag_names, high_flag_names, low_flag_names}
use Rattle.plain_lines.specs.Flags.{flags_of, flags_with, flags_word, number_among, significant}
use Rattle.plain_lines.specs.PlainLines.{number_of, plain_flags}
use Rattle.plain_lines.proofs.HexWords.{byte_at-small}

-- ---- flags are of 16 bits

abbrev all_fit : List Named → Bool
all_fit [] = true
all_fit (x ∷ xs) = nat_lt x.number 65536 && all_fit xs

inside : (n m : ℕ) → Some n ≡ Some m → n ≡ m
inside n m h = cc h

number_among-fits : (names : List Named) (word : List ℕ) (n : ℕ) → all_fit names ≡ true → number_among names word ≡ Some n → n < 2 ^ 16
number_among-fits [] word n fit is = cc is
number_among-fits (x ∷ xs) word n fit is =
    let (first, rest) = and_parts (nat_lt x.number 65536) (all_fit xs) fit in
    elim (bytes_eq word x.name) as (λ t. (if t then Some x.number else number_among xs word) ≡ Some n → n < 2 ^ 16) [
      | true ↦ λ this. subst (λ (k : ℕ). k < 2 ^ 16) (inside x.number n this) (ltb-true x.number 65536 first)
      | false ↦ λ that. number_among-fits xs word n rest that
    ] is

names_fit : all_fit flag_names ≡ true
unfolding flag_names low_flag_names high_flag_names
names_fit = refl

flags_with-fits : (flags : ℕ) (words : List (List ℕ)) (n : ℕ) → flags < 2 ^ 16 → flags_with flags words ≡ Some n → n < 2 ^ 16
flags_with-fits flags [] n small is = subst (λ (k : ℕ). k < 2 ^ 16) (inside flags n is) small
flags_with-fits flags (word ∷ words) n small is =
    elim (number_among flag_names word)
    as (λ (o : Option ℕ). number_among flag_names word ≡ o → (o >>= (λ flag. flags_with (bit_or flags flag) words)) ≡ Some n → n < 2 ^ 16) [
      | Some flag ↦ λ e more.
          flags_with-fits (bit_or flags flag) words n (or_of_16 flags flag small (number_among-fits flag_names word flag names_fit e)) more
      | None ↦ λ _ none. cc none
    ] refl is

-- ---- their digits

length-significant : (digits : List ℕ) → length (significant digits) ≤ length digits
length-significant [] = omega arith
length-significant (digit ∷ []) = omega arith
length-significant (digit ∷ next ∷ digits) =
    elim (digit == 48) as (λ t. length (cond t (significant (next ∷ digits)) (digit ∷ next ∷ digits)) ≤ length (digit ∷ next ∷ digits)) [
      | true ↦ omega (arith, length-significant (next ∷ digits))
      | false ↦ omega arith
    ]

some-significant : (digits : List ℕ) → 0 < length digits → 0 < length (significant digits)
some-significant [] none = none
some-significant (digit ∷ []) some = omega arith
some-significant (digit ∷ next ∷ digits) some =
    elim (digit == 48) as (λ t. 0 < length (cond t (significant (next ∷ digits)) (digit ∷ next ∷ digits))) [
      | true ↦ some-significant (next ∷ digits) (omega arith)
      | false ↦ omega arith
    ]

-- with the zeros before them they are all digits
zeros-before : (digits : List ℕ) → replicate (length digits - length (significant digits)) 48 ++ significant digits ≡ digits
zeros-before [] = refl
zeros-before (digit ∷ []) = refl
zeros-before (digit ∷ next ∷ digits) =
    let rest = next ∷ digits in
    elim (digit == 48)
    as (λ t. (digit == 48) ≡ t → replicate (length (digit ∷ rest) - length (cond t (significant rest) (digit ∷ rest))) 48 ++ cond t (significant rest) (digit ∷ rest) ≡ digit ∷ rest) [
      | true ↦ λ e.
          let one : length (digit ∷ rest) - length (significant rest) ≡ suc (length rest - length (significant rest)) = omega (arith, length-significant rest) in
          let first : 48 ≡ digit = sym (eqb-true digit 48 e) in
          rw one (ap (λ (ds : List ℕ). 48 ∷ ds) (zeros-before (next ∷ digits)) ∙ ap (λ (d : ℕ). d ∷ rest) first)
      | false ↦ λ _. let none : length (digit ∷ rest) - length (digit ∷ rest) ≡ 0 = omega arith in rw none refl
    ] refl

four_zeros : (bytes : List ℕ) → encode_lower (0 ∷ 0 ∷ bytes) ≡ 48 ∷ 48 ∷ 48 ∷ 48 ∷ encode_lower bytes
unfolding encode_with
four_zeros bytes = refl

IsBytes-four : (a b : ℕ) → a ≤ 255 → b ≤ 255 → IsBytes (0 ∷ 0 ∷ a ∷ b ∷ [])
IsBytes-four a b high low zero = omega arith
IsBytes-four a b high low (suc zero) = omega arith
IsBytes-four a b high low (suc (suc zero)) = omega arith
IsBytes-four a b high low (suc (suc (suc zero))) = omega arith
IsBytes-four a b high low (suc (suc (suc (suc i)))) = omega arith

-- digits that are four with zeros before them are read as a number of two bytes
read_digits : (word : List ℕ) (a b : ℕ) → a ≤ 255 → b ≤ 255 → 0 < length word → length word ≤ 4
    → replicate (4 - length word) 48 ++ word ≡ encode_lower (a ∷ b ∷ []) → hex_number_of word ≡ Some (from_be_bytes w16 (a ∷ b ∷ []))
read_digits word a b high low some few whole =
    let more : 8 - length word ≡ suc (suc (suc (suc (4 - length word)))) = omega arith in
    let bytes = 0 ∷ 0 ∷ a ∷ b ∷ [] in
    let eight : replicate (8 - length word) 48 ++ word ≡ encode_lower bytes =
    ap (λ (k : ℕ). replicate k 48 ++ word) more
    ∙ ap (λ (ds : List ℕ). 48 ∷ 48 ∷ 48 ∷ 48 ∷ ds) whole ∙ sym (four_zeros (a ∷ b ∷ [])) in
    let decodes = decode_of-encode_lower bytes (IsBytes-four a b high low) in
    let one : nat_le 1 (length word) ≡ true = le-leb 1 (length word) (omega arith) in
    let most : nat_le (length word) 8 ≡ true = le-leb (length word) 8 (omega arith) in
    let same : from_be_bytes w32 bytes ≡ from_be_bytes w16 (a ∷ b ∷ []) = omega arith in
    rw (one, most, eight, decodes) (ap Some same)

pub hex_number_of-flags_word : (flags : ℕ) → flags < 2 ^ 16 → hex_number_of (flags_word flags) ≡ Some flags
hex_number_of-flags_word flags small =
    let bytes = to_be_bytes w16 flags in
    let digits = encode_lower bytes in
    let four : length digits ≡ 4 = length-encode_with lower_digits bytes in
    let word = flags_word flags in
    let whole : replicate (4 - length word) 48 ++ word ≡ digits = ap (λ (k : ℕ). replicate (k - length word) 48 ++ word) (sym four) ∙ zeros-before digits in
    read_digits word (byte_at 1 flags) (byte_at 0 flags) (byte_at-small 1 flags) (byte_at-small 0 flags)
    (some-significant digits (omega (arith, four))) (omega (arith, four, length-significant digits)) whole
    ∙ ap Some (from_be_bytes-to_be_bytes_2 flags small)

pub flags_are_read : (word : List ℕ) (flags : ℕ) → flags_of word ≡ Some flags → hex_number_of (plain_flags word) ≡ Some flags
flags_are_read word flags is =
    ap (λ (o : Option ℕ). hex_number_of (number_of word o)) is
    ∙ hex_number_of-flags_word flags (flags_with-fits 0 (parted_by 44 word) flags (omega arith) is)
