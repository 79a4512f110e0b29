-- Where a text is cut at the first byte of a value.
use Rattle.std.proofs.Common.{◌≡◌, ◌<◌, ◌≤◌, ◌∙◌, ◌+◌, ℕ, cond, List, [], ◌∷◌, ◌++◌, length, take, drop, get_or, refl, sym, ap, subst, arith, nat_lt, Some, None, ◌==◌, drop-cons, add-one, append-nil, Bool}
use Rattle.std.specs.List.{position, position_or_len, between, join_with_byte}
use Rattle.std.proofs.lemmas.List.Splits.{slice_split_first, slice_split_none, length-slice_split, join_with_byte-slice_split}
use Rattle.std.proofs.lemmas.Bool.{eqb-true}
use Rattle.std.proofs.lemmas.List.Quantifiers.{position-Some}
use Rattle.std.proofs.lemmas.List.Sums.{fails_before_first}
use Rattle.std.proofs.lemmas.Slice.{between_to_end}
use Rattle.event_file.specs.Words.{parted_by}
use Rattle.plain_lines.specs.Behind.{IsBehind, spaced, words_after}
use Rattle.plain_lines.specs.PlainLines.{plain_behind, plain_of, plain_words}

below : (p n at : ℕ) → Some at ≡ cond (nat_lt p n) (Some p) None → (p < n) × (p ≡ at)
below p n at h = grind arith

past : (p n : ℕ) → None ≡ cond (nat_lt p n) (Some p) None → n ≤ p
past p n h = grind arith

-- at the first byte of the value the first part ends
parted_at : (byte at : ℕ) (text : List ℕ) → Some at ≡ position (λ b. b == byte) text → (at < length text) × (parted_by byte text ≡ take at text ∷ parted_by byte (drop (at + 1) text))
parted_at byte at text h =
    let is_byte : ℕ → Bool = λ b. b == byte in
    let there : (position_or_len is_byte text < length text) × (position_or_len is_byte text ≡ at) = below _ _ at h in (
      omega (arith, there.0, there.1),
      slice_split_first is_byte text 0 there.0 ∙ ap (λ (i : ℕ). take i text ∷ parted_by byte (drop (i + 1) text)) there.1,
    )

pub parted_there : (byte at : ℕ) (text : List ℕ) → Some at ≡ position (λ b. b == byte) text → parted_by byte text ≡ take at text ∷ parted_by byte (between (at + 1) (length text) text)
parted_there byte at text h =
    let there = parted_at byte at text h in
    there.1 ∙ ap (λ (rest : List ℕ). take at text ∷ parted_by byte rest) (sym (between_to_end text (at + 1) (length text) (omega arith)))

-- without a byte of the value there is one part
pub parted_nowhere : (byte : ℕ) (text : List ℕ) → None ≡ position (λ b. b == byte) text → parted_by byte text ≡ text ∷ []
parted_nowhere byte text h =
    let is_byte : ℕ → Bool = λ b. b == byte in
    let none : length text ≤ position_or_len is_byte text = past _ _ h in
    slice_split_none is_byte text (λ k d l. fails_before_first is_byte text k d (omega (arith, l, none)))

-- ---- words

-- words are joined as the first of them and what stands behind it
pub joined-first : (word : List ℕ) (words : List (List ℕ)) → join_with_byte 32 (word ∷ words) ≡ word ++ spaced words
joined-first word [] = sym (append-nil word)
joined-first word (next ∷ words) = ap (λ (rest : List ℕ). word ++ 32 ∷ rest) (joined-first next words)

joined-some : (words : List (List ℕ)) → 0 < length words → spaced words ≡ 32 ∷ join_with_byte 32 words
joined-some [] none = absurd (omega arith)
joined-some (word ∷ words) some = ap (λ (rest : List ℕ). 32 ∷ rest) (sym (joined-first word words))

-- the words of a text, each with a space before it, are the text with one before it
pub spaced-parted : (text : List ℕ) → spaced (parted_by 32 text) ≡ 32 ∷ text
spaced-parted text =
    joined-some (parted_by 32 text) (omega (arith, length-slice_split (λ b. b == 32) text))
    ∙ ap (λ (rest : List ℕ). 32 ∷ rest) (join_with_byte-slice_split 32 text)

pub IsBehind-space : (text : List ℕ) → IsBehind (32 ∷ text)
IsBehind-space text = record { spaces = sym (spaced-parted text) }

-- at the first space what stands behind the first word begins
behind_there : (at : ℕ) (text : List ℕ) → Some at ≡ position (λ b. b == 32) text → between at (length text) text ≡ 32 ∷ drop (at + 1) text
behind_there at text h =
    let found = position-Some (λ b. b == 32) text at 0 (sym h) in
    let within : at < length text = found.0 in
    let space : get_or text at 0 ≡ 32 = eqb-true (get_or text at 0) 32 found.1 in
    between_to_end text at (length text) (omega arith)
    ∙ rw (add-one, drop-cons text at 0, space) refl

pub first_there : (at : ℕ) (text : List ℕ) → Some at ≡ position (λ b. b == 32) text → parted_by 32 text ≡ take at text ∷ words_after (between at (length text) text)
first_there at text h =
    let cut_there = parted_at 32 at text h in
    cut_there.1 ∙ ap (λ (behind : List ℕ). take at text ∷ words_after behind) (sym (behind_there at text h))

pub IsBehind-there : (at : ℕ) (text : List ℕ) → Some at ≡ position (λ b. b == 32) text → IsBehind (between at (length text) text)
IsBehind-there at text h = subst IsBehind (sym (behind_there at text h)) (IsBehind-space (drop (at + 1) text))

-- ---- a plain line

pub plain-first : (verb behind line : List ℕ) → parted_by 32 line ≡ verb ∷ words_after behind → plain_of line ≡ verb ++ spaced (plain_behind verb (words_after behind))
plain-first verb behind line parts =
    ap (λ (words : List (List ℕ)). join_with_byte 32 (plain_words words)) parts ∙ joined-first verb (plain_behind verb (words_after behind))
