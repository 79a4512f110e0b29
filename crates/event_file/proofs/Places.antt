-- Where the first byte of a value stands, found a byte at a time or among the bytes behind some.
use Rattle.std.proofs.Common.{◌≡◌, ℕ, ◌+◌, ◌-◌, ◌<◌, ◌≤◌, inl, inr, Bool, true, false, nat_lt, List, length, drop, slice_index, Option, Some, None, arith, refl, sym, ap, ◌∙◌}
use Rattle.std.specs.Prelude.{option_map}
use Rattle.std.specs.List.{between, position, position_or_len}
use Rattle.std.proofs.lemmas.Bool.{cases_lt, cond-true, cond-false, lt-ltb, le-ltb}
use Rattle.std.proofs.lemmas.List.{get_or-drop, length-drop}
use Rattle.std.proofs.lemmas.List.Sums.{position_or_len_is}
use Rattle.std.proofs.lemmas.Slice.{between_to_end}
use Rattle.memchr.specs.Find.{IsFirstByte, is_byte}

-- at no place before this one stands the byte
abbrev pub NoneBefore : ℕ → List ℕ → ℕ → Type 0
NoneBefore byte text at = (k : ℕ) → k < at → is_byte byte (slice_index text k) ≡ false

pub found : (byte at : ℕ) (text : List ℕ) → NoneBefore byte text at → at < length text → is_byte byte (slice_index text at) ≡ true → Some at ≡ position (is_byte byte) text
found byte at text before below here =
    let n : position_or_len (is_byte byte) text ≡ at = position_or_len_is (is_byte byte) text at 0 (omega (arith, below)) before (λ _. here) in
    let t : nat_lt (position_or_len (is_byte byte) text) (length text) ≡ true = lt-ltb _ _ (omega (arith, n, below)) in
    sym (cond-true _ (Some (position_or_len (is_byte byte) text)) None t ∙ ap Some n)

missing : (byte : ℕ) (text : List ℕ) → NoneBefore byte text (length text) → None ≡ position (is_byte byte) text
missing byte text before =
    let n : position_or_len (is_byte byte) text ≡ length text = position_or_len_is (is_byte byte) text (length text) 0 (omega arith) before (λ below. absurd (omega (arith, below))) in
    let t : nat_lt (position_or_len (is_byte byte) text) (length text) ≡ false = le-ltb _ _ (omega (arith, n)) in
    sym (cond-false _ (Some (position_or_len (is_byte byte) text)) None t)

is_false : (t : Bool) → ((t ≡ true) → ⊥) → t ≡ false
is_false true f = absurd (f refl)
is_false false f = refl

-- none before a place, and none from there up to another
none_before_far : (byte near far : ℕ) (text : List ℕ) → NoneBefore byte text near
    → ((k : ℕ) → 0 ≤ k → k < far → (is_byte byte (slice_index (drop near text) k) ≡ true) → ⊥) → NoneBefore byte text (near + far)
none_before_far byte near far text before behind k below =
    elim (cases_lt k near) [
      | inl early ↦ before k early
      | inr late ↦
          let there : near + (k - near) ≡ k = omega (arith, late) in
          let same : slice_index (drop near text) (k - near) ≡ slice_index text k = get_or-drop near text (k - near) 0 ∙ ap (λ (i : ℕ). slice_index text i) there in
          is_false _ (λ is. behind (k - near) (omega arith) (omega (arith, late, below)) (ap (λ (b : ℕ). is_byte byte b) same ∙ is))
    ]

found_behind : (byte near : ℕ) (text : List ℕ) (r : Option ℕ) → NoneBefore byte text near → near ≤ length text
    → IsFirstByte (is_byte byte) (drop near text) r → option_map (λ far. near + far) r ≡ position (is_byte byte) text
found_behind byte near text None before fits h =
    let long = length-drop near text in
    let all : near + length (drop near text) ≡ length text = omega (arith, long, fits) in
    missing byte text (λ k below. none_before_far byte near (length (drop near text)) text before h k (omega (arith, below, all)))
found_behind byte near text (Some far) before fits h =
    let long = length-drop near text in
    let high = h.0.high in
    found byte (near + far) text (none_before_far byte near far text before h.0.before) (omega (arith, long, fits, high)) (ap (λ (b : ℕ). is_byte byte b) (sym (get_or-drop near text far 0)) ∙ h.1)

-- the place found among the bytes behind some, where it isn't among these
pub found_far : (byte near : ℕ) (text : List ℕ) (r : Option ℕ) → NoneBefore byte text near → near ≤ length text
    → IsFirstByte (is_byte byte) (between near (length text) text) r → option_map (λ far. near + far) r ≡ position (is_byte byte) text
found_far byte near text r before fits h = found_behind byte near text r before fits (rw (between_to_end text near (length text) (omega arith)) at h)
