-- Words of hexadecimal digits are no names of flags.
use Rattle.std.proofs.Common.{◌≡◌, ◌≤◌, ◌∙◌, ◌-◌, ◌&&◌, ℕ, zero, suc, Bool, true, false, cond, List, [], ◌∷◌, ◌++◌, length, replicate, refl, sym, ap, subst, arith, nat_le, bytes_eq, ◌==◌, Some, None, is_some, Result, Ok, Err}
use Rattle.std.specs.Prelude.{not, option_map}
use Rattle.std.specs.Int.{w16, w32, byte_at, from_be_bytes, to_be_bytes}
use Rattle.std.specs.List.{list_all}
use Rattle.std.proofs.lemmas.Bool.{and_from, and_parts, eqb-true}
use Rattle.std.proofs.lemmas.List.Folds.{list_all-append}
use Rattle.std.proofs.lemmas.List.Sums.{list_all-from_AllPass}
use Rattle.std.proofs.lemmas.Slice.Eq.{bytes_eq-Decides}
use Rattle.hex.specs.Hex.{IsBytes, decode_of, encode_lower, is_hex_digit, lower_digits}
use Rattle.hex.specs.declared.error.FromHexError.{FromHexError}
use Rattle.hex.proofs.HexLemmas.{IsDigits-lower_digits, decode_of-ok, decode_pairs-encode_with, decode_pairs-ok}
use Rattle.event_file.specs.Words.{decoded, hex_number_of, parted_by}
use Rattle.message_text.specs.Names.{Named, flag_names, high_flag_names, low_flag_names}
use Rattle.plain_lines.specs.Flags.{flags_of, flags_with, flags_word, number_among, significant}
use Rattle.plain_lines.proofs.PartedWords.{lacks, parted-lacks}

abbrev pub all_hex : List ℕ → Bool
all_hex word = list_all is_hex_digit word

-- ---- names

abbrev no_hex : List Named → Bool
no_hex [] = true
no_hex (x ∷ xs) = not (all_hex x.name) && no_hex xs

both : (t : Bool) → not t ≡ true → t ≡ true → {P : Type 0} → P
both true h is = cc h
both false h is = cc is

number_among-hex : (names : List Named) (word : List ℕ) → no_hex names ≡ true → all_hex word ≡ true → number_among names word ≡ None
number_among-hex [] word none hex = refl
number_among-hex (x ∷ xs) word none hex =
    let (not_this, others) = and_parts (not (all_hex x.name)) (no_hex xs) none in
    elim (bytes_eq word x.name) as (λ t. bytes_eq word x.name ≡ t → cond t (Some x.number) (number_among xs word) ≡ None) [
      | true ↦ λ e. both (all_hex x.name) not_this (subst (λ (w : List ℕ). all_hex w ≡ true) ((bytes_eq-Decides word x.name).0 e) hex)
      | false ↦ λ _. number_among-hex xs word others hex
    ] refl

no_hex-names : no_hex flag_names ≡ true
unfolding flag_names low_flag_names high_flag_names
no_hex-names = refl

digit-comma : (word : List ℕ) → all_hex word ≡ true → lacks 44 word ≡ true
digit-comma [] hex = refl
digit-comma (b ∷ bs) hex =
    let (first, rest) = and_parts (is_hex_digit b) (all_hex bs) hex in
    and_from (not (b == 44)) (lacks 44 bs)
    (elim (b == 44) as (λ t. (b == 44) ≡ t → not t ≡ true) [
      | true ↦ λ e.
          let same : b ≡ 44 = eqb-true b 44 e in
          let is : is_hex_digit 44 ≡ true = subst (λ (k : ℕ). is_hex_digit k ≡ true) same first in
          cc is
      | false ↦ λ _. refl
    ] refl)
    (digit-comma bs rest)

pub flags_of-hex : (word : List ℕ) → all_hex word ≡ true → flags_of word ≡ None
flags_of-hex word hex =
    let one : parted_by 44 word ≡ word ∷ [] = parted-lacks 44 word (digit-comma word hex) in
    let none : number_among flag_names word ≡ None = number_among-hex flag_names word no_hex-names hex in
    ap (λ (words : List (List ℕ)). flags_with 0 words) one ∙ rw none refl

-- ---- hexadecimal numbers

all_hex-behind : (front word : List ℕ) → all_hex (front ++ word) ≡ true → all_hex word ≡ true
all_hex-behind front word hex = (and_parts (all_hex front) (all_hex word) (sym (list_all-append is_hex_digit front word) ∙ hex)).1

decoded-hex : (word : List ℕ) (r : Result (List ℕ) FromHexError) → decode_of word ≡ r → is_some (option_map (from_be_bytes w32) (decoded r)) ≡ true → all_hex word ≡ true
decoded-hex word (Ok bytes) is some = list_all-from_AllPass is_hex_digit word (decode_of-ok word bytes is).1
decoded-hex word (Err e) is some = cc some

pub hex_number_of-hex : (word : List ℕ) → is_some (hex_number_of word) ≡ true → all_hex word ≡ true
hex_number_of-hex word some =
    let zeros = replicate (8 - length word) 48 in
    elim (nat_le 1 (length word) && nat_le (length word) 8)
    as (λ t. is_some (cond t (option_map (from_be_bytes w32) (decoded (decode_of (zeros ++ word)))) None) ≡ true → all_hex word ≡ true) [
      | true ↦ λ read. all_hex-behind zeros word (decoded-hex (zeros ++ word) (decode_of (zeros ++ word)) refl read)
      | false ↦ λ none. cc none
    ] some

-- ---- words of flags

IsBytes-two : (a b : ℕ) → a ≤ 255 → b ≤ 255 → IsBytes (a ∷ b ∷ [])
IsBytes-two a b high low zero = omega arith
IsBytes-two a b high low (suc zero) = omega arith
IsBytes-two a b high low (suc (suc i)) = omega arith

pub byte_at-small : (i n : ℕ) → byte_at i n ≤ 255
byte_at-small zero n = omega arith
byte_at-small (suc i) n = omega arith

IsBytes-number : (n : ℕ) → IsBytes (to_be_bytes w16 n)
IsBytes-number n = IsBytes-two (byte_at 1 n) (byte_at 0 n) (byte_at-small 1 n) (byte_at-small 0 n)

all_hex-significant : (digits : List ℕ) → all_hex digits ≡ true → all_hex (significant digits) ≡ true
all_hex-significant [] hex = refl
all_hex-significant (digit ∷ []) hex = hex
all_hex-significant (digit ∷ next ∷ digits) hex =
    elim (digit == 48) as (λ t. all_hex (cond t (significant (next ∷ digits)) (digit ∷ next ∷ digits)) ≡ true) [
      | true ↦ all_hex-significant (next ∷ digits) (and_parts (is_hex_digit digit) (all_hex (next ∷ digits)) hex).1
      | false ↦ hex
    ]

pub all_hex-flags_word : (n : ℕ) → all_hex (flags_word n) ≡ true
all_hex-flags_word n =
    let bytes = to_be_bytes w16 n in
    let digits = encode_lower bytes in
    let read = decode_pairs-encode_with lower_digits IsDigits-lower_digits 0 bytes (IsBytes-number n) in
    all_hex-significant digits (list_all-from_AllPass is_hex_digit digits (decode_pairs-ok 0 digits bytes read).0)
