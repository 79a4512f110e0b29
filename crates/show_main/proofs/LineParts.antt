-- Where a line ends, and the message that it tells.
use Rattle.std.proofs.Common.{◌≡◌, ◌∙◌, ℕ, ◌+◌, Bool, true, false, ◌&&◌, List, [], ◌∷◌, length, Option, Some, None, Ok, refl, sym, ap, subst, arith}
use Rattle.std.specs.Prelude.{if◌then◌else◌, option_map}
use Rattle.std.specs.List.{between, list_all, position}
use Rattle.std.proofs.lemmas.Slice.{between_to_end}
use Rattle.memchr.specs.Find.{IsFirstByte, is_byte}
use Rattle.hex.specs.Hex.{decode_of}
use Rattle.event_file.specs.Lines.{is_newline}
use Rattle.event_file.proofs.Places.{found_far}
use Rattle.show_main.specs.Digits.{behind_msg}
use Rattle.show_main.specs.Shown.{is_lower_digit, message_in, spelled}

-- ---- the first newline

from_start : (r : Option ℕ) → (option_map (λ (far : ℕ). 0 + far) r) ≡ r
from_start None = refl
from_start (Some at) = ap (λ (n : ℕ). Some n) (omega arith)

pub first_newline : (text : List ℕ) (r : Option ℕ) → IsFirstByte (is_byte 10) text r → r ≡ position is_newline text
first_newline text r h =
    let whole : text ≡ between 0 (length text) text = sym (between_to_end text 0 (length text) (omega arith)) in
    sym (from_start r)
    ∙ found_far 10 0 text r (λ k below. absurd (omega (arith, below))) (omega arith) (subst (λ (t : List ℕ). IsFirstByte (is_byte 10) t r) whole h)

-- ---- the message of a line

if_said : (b : Bool) (told digits bytes : List ℕ) → Some digits ≡ (if b then Some told else None)
    → list_all is_lower_digit digits ≡ true → decode_of digits ≡ Ok bytes
    → spelled (if b && list_all is_lower_digit told then Some told else None) ≡ Some bytes
if_said true told digits bytes is all spells =
    let same : told ≡ digits = cc in rw (same, all, spells) refl
if_said false told digits bytes is all spells = cc

-- what digits behind `msg ` spell
pub message_told : (line digits bytes : List ℕ) → Some digits ≡ behind_msg line → list_all is_lower_digit digits ≡ true
    → decode_of digits ≡ Ok bytes → message_in line ≡ Some bytes
message_told (m ∷ s ∷ g ∷ space ∷ b ∷ bs) digits bytes is all spells = if_said _ (b ∷ bs) digits bytes is all spells
message_told [] digits bytes is all spells = cc
message_told (m ∷ []) digits bytes is all spells = cc
message_told (m ∷ s ∷ []) digits bytes is all spells = cc
message_told (m ∷ s ∷ g ∷ []) digits bytes is all spells = cc
message_told (m ∷ s ∷ g ∷ space ∷ []) digits bytes is all spells = cc
