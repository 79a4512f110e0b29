-- Words that are joined by a byte which none of them has are parted by it again.
use Rattle.std.proofs.Common.{◌≡◌, ◌≢◌, ◌<◌, ◌≤◌, ◌+◌, ◌∙◌, ℕ, Bool, true, false, List, [], ◌∷◌, length, length-append, refl, ap, subst, arith, ◌==◌}
use Rattle.std.specs.Prelude.{⊤}
use Rattle.std.specs.List.{All, AllPass, join_with_byte}
use Rattle.std.specs.Str.Parse.{AllDigits}
use Rattle.std.proofs.lemmas.Bool.{eq-eqb, ne_eqb}
use Rattle.std.proofs.lemmas.List.Elements.{All-nil, All-cons, All-append, All-weaker}
use Rattle.std.proofs.lemmas.List.Splits.{slice_split_at, slice_split_none}
use Rattle.std.proofs.lemmas.Str.Parse.{digit_from_value}
use Rattle.event_file.specs.Words.{parted_by}

-- the text has no such byte
abbrev pub Lacks : ℕ → List ℕ → Type 0
Lacks byte text = All (λ b. (b == byte) ≡ false) text

abbrev pub AllLack : ℕ → List (List ℕ) → Type 0
AllLack byte [] = ⊤
AllLack byte (word ∷ words) = Lacks byte word × AllLack byte words

pub parted-joined : (byte : ℕ) (word : List ℕ) (words : List (List ℕ)) → AllLack byte (word ∷ words) → parted_by byte (join_with_byte byte (word ∷ words)) ≡ word ∷ words
parted-joined byte word [] lack = slice_split_none (λ b. b == byte) word lack.0
parted-joined byte word (next ∷ words) lack =
    slice_split_at (λ b. b == byte) word byte (join_with_byte byte (next ∷ words)) lack.0 (eq-eqb byte byte refl)
    ∙ ap (λ ws. word ∷ ws) (parted-joined byte next words lack.1)

-- a text whose bytes pass a test lacks a byte that does not
pub Lacks-tested : (test : ℕ → Bool) (byte : ℕ) (text : List ℕ) → AllPass test text → test byte ≡ false → Lacks byte text
Lacks-tested test byte text pass fails =
    All-weaker (λ b. test b ≡ true) (λ b. (b == byte) ≡ false) (λ b passes. ne_eqb b byte (λ e. let same : test byte ≡ true = subst (λ k. test k ≡ true) e passes in cc)) text pass

pub Lacks-digits : (byte : ℕ) (digits : List ℕ) → byte < 48 → AllDigits 10 digits → Lacks byte digits
Lacks-digits byte [] small are = All-nil (λ b. (b == byte) ≡ false)
Lacks-digits byte (d ∷ ds) small are =
    All-cons (λ b. (b == byte) ≡ false) d ds (ne_eqb d byte (λ e. omega (arith, digit_from_value d are.0, e))) (Lacks-digits byte ds small are.1)

-- joined words lack a byte that they and the one between them do
pub Lacks-joined : (byte between : ℕ) (words : List (List ℕ)) → between ≢ byte → AllLack byte words → Lacks byte (join_with_byte between words)
Lacks-joined byte between [] other lack = All-nil (λ b. (b == byte) ≡ false)
Lacks-joined byte between (word ∷ []) other lack = lack.0
Lacks-joined byte between (word ∷ next ∷ words) other lack =
    let rest = join_with_byte between (next ∷ words) in
    All-append (λ b. (b == byte) ≡ false) word (between ∷ rest) lack.0
    (All-cons (λ b. (b == byte) ≡ false) between rest (ne_eqb between byte other) (Lacks-joined byte between (next ∷ words) other lack.1))

-- ---- how long they are

-- the words' bytes, and one for each word
abbrev pub room_of : List (List ℕ) → ℕ
room_of [] = 0
room_of (word ∷ words) = 1 + length word + room_of words

pub length-joined : (byte : ℕ) (words : List (List ℕ)) → length (join_with_byte byte words) ≤ room_of words
length-joined byte [] = omega arith
length-joined byte (word ∷ []) = omega arith
length-joined byte (word ∷ next ∷ words) =
    omega (arith, length-append word (byte ∷ join_with_byte byte (next ∷ words)), length-joined byte (next ∷ words))
