-- The words of a plain line: they are as many, none has a space, and they are plain.
use Rattle.std.proofs.Common.{◌≡◌, ◌∙◌, ◌&&◌, ◌<◌, ℕ, Bool, true, false, List, [], ◌∷◌, length, codes, bytes_eq, refl, ap, subst, arith, ◌==◌, Option, Some, None}
use Rattle.std.specs.Prelude.{not, if◌then◌else◌}
use Rattle.std.specs.List.{join_with_byte}
use Rattle.std.proofs.lemmas.Bool.{and_from, and_parts, eqb-true}
use Rattle.std.proofs.lemmas.List.Splits.{length-slice_split}
use Rattle.hex.specs.Hex.{is_hex_digit}
use Rattle.event_file.specs.Words.{parted_by}
use Rattle.plain_lines.specs.Flags.{flags_of, flags_word}
use Rattle.plain_lines.specs.PlainLines.{number_of, plain_dump, plain_filter, plain_flags, plain_of, plain_options, plain_room, plain_route, plain_words}
use Rattle.plain_lines.proofs.HexWords.{all_hex, all_hex-flags_word, flags_of-hex}
use Rattle.plain_lines.proofs.PartedWords.{all_lack, all_lack-parted, lacks, parted-joined}

-- ---- words that are exchanged

twice_number : (word : List ℕ) (o : Option ℕ) → flags_of word ≡ o → plain_flags (number_of word o) ≡ number_of word o
twice_number word None is = ap (number_of word) is
twice_number word (Some flags) is = ap (number_of (flags_word flags)) (flags_of-hex (flags_word flags) (all_hex-flags_word flags))

twice_flags : (word : List ℕ) → plain_flags (plain_flags word) ≡ plain_flags word
twice_flags word = twice_number word (flags_of word) refl

twice_room : (word : List ℕ) → plain_room (plain_room word) ≡ plain_room word
twice_room word =
    let P : Bool → List ℕ = λ t. if t then codes "4294967295" else word in
    elim (bytes_eq word (codes "all")) as (λ t. bytes_eq word (codes "all") ≡ t → plain_room (P t) ≡ P t) [
      | true ↦ λ _. refl
      | false ↦ λ e. ap P e
    ] refl

-- a word of hexadecimal digits has no space
hex_lacks : (word : List ℕ) → all_hex word ≡ true → lacks 32 word ≡ true
hex_lacks [] hex = refl
hex_lacks (b ∷ bs) hex =
    let (first, rest) = and_parts (is_hex_digit b) (all_hex bs) hex in
    and_from (not (b == 32)) (lacks 32 bs)
    (elim (b == 32) as (λ t. (b == 32) ≡ t → not t ≡ true) [
      | true ↦ λ e.
          let same : b ≡ 32 = eqb-true b 32 e in
          let is : is_hex_digit 32 ≡ true = subst (λ (k : ℕ). is_hex_digit k ≡ true) same first in
          cc is
      | false ↦ λ _. refl
    ] refl)
    (hex_lacks bs rest)

lacks_number : (word : List ℕ) (o : Option ℕ) → lacks 32 word ≡ true → lacks 32 (number_of word o) ≡ true
lacks_number word None lack = lack
lacks_number word (Some flags) lack = hex_lacks (flags_word flags) (all_hex-flags_word flags)

lacks_flags : (word : List ℕ) → lacks 32 word ≡ true → lacks 32 (plain_flags word) ≡ true
lacks_flags word lack = lacks_number word (flags_of word) lack

lacks_room : (word : List ℕ) → lacks 32 word ≡ true → lacks 32 (plain_room word) ≡ true
lacks_room word lack =
    elim (bytes_eq word (codes "all")) as (λ t. lacks 32 (if t then codes "4294967295" else word) ≡ true) [ true ↦ refl | false ↦ lack ]

-- ---- what holds of words behind a verb

-- as many words, none with a space, and plain
pub record IsPlain (words plain : List (List ℕ)) (again : List (List ℕ) → List (List ℕ)) : Type 0 where
  pub many : length plain ≡ length words
  pub lack : all_lack 32 words ≡ true → all_lack 32 plain ≡ true
  pub twice : again plain ≡ plain

same_words : (words : List (List ℕ)) → IsPlain words words (λ ws. ws)
same_words words = record { many = refl; lack = λ h. h; twice = refl }

abbrev option_word : Bool → List ℕ → List ℕ
option_word t word = if t then plain_flags word else word

twice_option : (t : Bool) (word : List ℕ) → option_word t (option_word t word) ≡ option_word t word
twice_option true word = twice_flags word
twice_option false word = refl

lacks_option : (t : Bool) (word : List ℕ) → lacks 32 word ≡ true → lacks 32 (option_word t word) ≡ true
lacks_option true word lack = lacks_flags word lack
lacks_option false word lack = lack

is_plain_options : (words : List (List ℕ)) → IsPlain words (plain_options words) plain_options
is_plain_options [] = record { many = refl; lack = λ h. h; twice = refl }
is_plain_options (name ∷ []) = record { many = refl; lack = λ h. h; twice = refl }
is_plain_options (name ∷ word ∷ rest) =
    let t = bytes_eq name (codes "flags") in
    let behind = is_plain_options rest in
    record {
      many = omega (arith, behind.many);
      lack = λ h.
          let (first, more) = and_parts (lacks 32 name) (lacks 32 word && all_lack 32 rest) h in
          let (second, others) = and_parts (lacks 32 word) (all_lack 32 rest) more in
          and_from (lacks 32 name) _ first (and_from (lacks 32 (option_word t word)) _ (lacks_option t word second) (behind.lack others));
      twice = ap (λ (w : List ℕ). name ∷ w ∷ plain_options (plain_options rest)) (twice_option t word)
          ∙ ap (λ (ws : List (List ℕ)). name ∷ option_word t word ∷ ws) behind.twice;
    }

is_plain_route : (words : List (List ℕ)) → IsPlain words (plain_route words) plain_route
is_plain_route [] = record { many = refl; lack = λ h. h; twice = refl }
is_plain_route (a ∷ []) = record { many = refl; lack = λ h. h; twice = refl }
is_plain_route (a ∷ b ∷ []) = record { many = refl; lack = λ h. h; twice = refl }
is_plain_route (a ∷ b ∷ c ∷ []) = record { many = refl; lack = λ h. h; twice = refl }
is_plain_route (a ∷ b ∷ c ∷ d ∷ options) =
    let behind = is_plain_options options in
    record {
      many = omega (arith, behind.many);
      lack = λ h.
          let (first, h1) = and_parts (lacks 32 a) (all_lack 32 (b ∷ c ∷ d ∷ options)) h in
          let (second, h2) = and_parts (lacks 32 b) (all_lack 32 (c ∷ d ∷ options)) h1 in
          let (third, h3) = and_parts (lacks 32 c) (all_lack 32 (d ∷ options)) h2 in
          let (fourth, h4) = and_parts (lacks 32 d) (all_lack 32 options) h3 in
          and_from (lacks 32 a) _ first (and_from (lacks 32 b) _ second (and_from (lacks 32 c) _ third (and_from (lacks 32 d) _ fourth (behind.lack h4))));
      twice = ap (λ (ws : List (List ℕ)). a ∷ b ∷ c ∷ d ∷ ws) behind.twice;
    }

is_plain_dump : (words : List (List ℕ)) → IsPlain words (plain_dump words) plain_dump
is_plain_dump [] = record { many = refl; lack = λ h. h; twice = refl }
is_plain_dump (room ∷ rest) = record {
  many = refl;
  lack = λ h.
      let (first, others) = and_parts (lacks 32 room) (all_lack 32 rest) h in
      and_from (lacks 32 (plain_room room)) _ (lacks_room room first) others;
  twice = ap (λ (w : List ℕ). w ∷ rest) (twice_room room);
}

is_plain_filter : (words : List (List ℕ)) → IsPlain words (plain_filter words) plain_filter
is_plain_filter [] = record { many = refl; lack = λ h. h; twice = refl }
is_plain_filter (flags ∷ rest) =
    let behind = is_plain_dump rest in
    record {
      many = omega (arith, behind.many);
      lack = λ h.
          let (first, others) = and_parts (lacks 32 flags) (all_lack 32 rest) h in
          and_from (lacks 32 (plain_flags flags)) _ (lacks_flags flags first) (behind.lack others);
      twice = ap (λ (w : List ℕ). w ∷ plain_dump (plain_dump rest)) (twice_flags flags)
          ∙ ap (λ (ws : List (List ℕ)). plain_flags flags ∷ ws) behind.twice;
    }

abbrev by_tests : Bool → Bool → Bool → List (List ℕ) → List (List ℕ)
by_tests route dump flags words =
    if route then plain_route words
    else if dump then plain_dump words
    else if flags then plain_filter words
    else words

is_plain_by : (route dump flags : Bool) (words : List (List ℕ)) → IsPlain words (by_tests route dump flags words) (by_tests route dump flags)
is_plain_by true dump flags words = is_plain_route words
is_plain_by false true flags words = is_plain_dump words
is_plain_by false false true words = is_plain_filter words
is_plain_by false false false words = same_words words

is_plain_words : (words : List (List ℕ)) → IsPlain words (plain_words words) plain_words
is_plain_words [] = record { many = refl; lack = λ h. h; twice = refl }
is_plain_words (verb ∷ words) =
    let behind = is_plain_by (bytes_eq verb (codes "route")) (bytes_eq verb (codes "dump")) (bytes_eq verb (codes "flags")) words in
    record {
      many = omega (arith, behind.many);
      lack = λ h.
          let (first, others) = and_parts (lacks 32 verb) (all_lack 32 words) h in
          and_from (lacks 32 verb) _ first (behind.lack others);
      twice = ap (λ (ws : List (List ℕ)). verb ∷ ws) behind.twice;
    }

-- ---- a plain line

parted_some : (words : List (List ℕ)) → 0 < length words → all_lack 32 words ≡ true → parted_by 32 (join_with_byte 32 words) ≡ words
parted_some [] none lack = absurd (omega arith)
parted_some (word ∷ words) some lack = parted-joined 32 word words lack

-- its words are those that it was joined of
parted-plain : (line : List ℕ) → parted_by 32 (plain_of line) ≡ plain_words (parted_by 32 line)
parted-plain line =
    let plain = is_plain_words (parted_by 32 line) in
    parted_some (plain_words (parted_by 32 line)) (omega (arith, plain.many, length-slice_split (λ b. b == 32) line))
    (plain.lack (all_lack-parted 32 line))

pub plain_lines_stay : (line : List ℕ) → plain_of (plain_of line) ≡ plain_of line
plain_lines_stay line =
    ap (λ (words : List (List ℕ)). join_with_byte 32 (plain_words words)) (parted-plain line)
    ∙ ap (join_with_byte 32) (is_plain_words (parted_by 32 line)).twice

pub as_many_words : (line : List ℕ) → length (parted_by 32 (plain_of line)) ≡ length (parted_by 32 line)
as_many_words line = ap length (parted-plain line) ∙ (is_plain_words (parted_by 32 line)).many
