-- Where a text is cut at the first byte of a value.
use Rattle.std.proofs.Common.{◌≡◌, ◌<◌, ◌≤◌, ◌∙◌, ◌+◌, ℕ, Bool, cond, List, [], ◌∷◌, length, take, drop, sym, ap, arith, nat_lt, Some, None, ◌==◌}
use Rattle.std.specs.List.{position, position_or_len, between}
use Rattle.std.proofs.lemmas.List.Splits.{slice_split_first, slice_split_none}
use Rattle.std.proofs.lemmas.List.Sums.{fails_before_first}
use Rattle.std.proofs.lemmas.Slice.{between_to_end}
use Rattle.event_file.specs.Words.{parted_by}

below : (p n at : ℕ) → Some at ≡ cond (nat_lt p n) (Some p) None → (p < n) × (p ≡ at)
below p n at h = grind arith

past : (p n : ℕ) → None ≡ cond (nat_lt p n) (Some p) None → n ≤ p
past p n h = grind arith

-- at the first byte of the value the first part ends
pub parted_there : (byte at : ℕ) (text : List ℕ) → Some at ≡ position (λ b. b == byte) text → parted_by byte text ≡ take at text ∷ parted_by byte (between (at + 1) (length text) text)
parted_there byte at text h =
    let is_byte : ℕ → Bool = λ b. b == byte in
    let there : (position_or_len is_byte text < length text) × (position_or_len is_byte text ≡ at) = below _ _ at h in
    slice_split_first is_byte text 0 there.0
    ∙ ap (λ (i : ℕ). take i text ∷ parted_by byte (drop (i + 1) text)) there.1
    ∙ ap (λ (rest : List ℕ). take at text ∷ parted_by byte rest) (sym (between_to_end text (at + 1) (length text) (omega arith)))

-- without a byte of the value there is one part
pub parted_nowhere : (byte : ℕ) (text : List ℕ) → None ≡ position (λ b. b == byte) text → parted_by byte text ≡ text ∷ []
parted_nowhere byte text h =
    let is_byte : ℕ → Bool = λ b. b == byte in
    let none : length text ≤ position_or_len is_byte text = past _ _ h in
    slice_split_none is_byte text (λ k d l. fails_before_first is_byte text k d (omega (arith, l, none)))
