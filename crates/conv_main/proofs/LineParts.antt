-- The first byte of a value in a line.
use Rattle.std.proofs.Common.{◌≡◌, ◌∙◌, ℕ, ◌+◌, List, length, Option, Some, None, refl, sym, ap, subst, arith}
use Rattle.std.specs.Prelude.{option_map}
use Rattle.std.specs.List.{between, position}
use Rattle.std.proofs.lemmas.Slice.{between_to_end}
use Rattle.memchr.specs.Find.{IsFirstByte, is_byte}
use Rattle.event_file.proofs.Places.{found_far}

from_start : (r : Option ℕ) → (option_map (λ (far : ℕ). 0 + far) r) ≡ r
from_start None = refl
from_start (Some at) = ap (λ (n : ℕ). Some n) (omega arith)

pub first_byte : (byte : ℕ) (text : List ℕ) (r : Option ℕ) → IsFirstByte (is_byte byte) text r → r ≡ position (is_byte byte) text
first_byte byte text r h =
    let whole : text ≡ between 0 (length text) text = sym (between_to_end text 0 (length text) (omega arith)) in
    sym (from_start r)
    ∙ found_far byte 0 text r (λ k below. absurd (omega (arith, below))) (omega arith) (subst (λ (t : List ℕ). IsFirstByte (is_byte byte) t r) whole h)
