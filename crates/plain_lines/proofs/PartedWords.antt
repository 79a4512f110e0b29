-- Parts of a text between the bytes of a value have no such byte, and parts that have none are parted again where they
-- are joined by it.
use Rattle.std.proofs.Common.{◌≡◌, ◌∙◌, ◌&&◌, ℕ, Bool, true, false, cond, List, [], ◌∷◌, refl, ap, ◌==◌}
use Rattle.std.specs.Prelude.{not}
use Rattle.std.specs.List.{All, join_with_byte, list_all, onto_first}
use Rattle.std.proofs.lemmas.Bool.{and_from, and_parts, eq-eqb}
use Rattle.std.proofs.lemmas.List.Elements.{All-cons, All-nil}
use Rattle.std.proofs.lemmas.List.Splits.{slice_split_at, slice_split_none}
use Rattle.event_file.specs.Words.{parted_by}

-- the text has no such byte
abbrev pub lacks : ℕ → List ℕ → Bool
lacks byte text = list_all (λ b. not (b == byte)) text

abbrev pub all_lack : ℕ → List (List ℕ) → Bool
all_lack byte [] = true
all_lack byte (word ∷ words) = lacks byte word && all_lack byte words

-- what is not true is false
pub other : (t : Bool) → not t ≡ true → t ≡ false
other true h = cc h
other false h = refl

Lacks-all : (byte : ℕ) (text : List ℕ) → lacks byte text ≡ true → All (λ b. (b == byte) ≡ false) text
Lacks-all byte [] none = All-nil (λ b. (b == byte) ≡ false)
Lacks-all byte (b ∷ bs) none =
    let (first, rest) = and_parts (not (b == byte)) (lacks byte bs) none in
    All-cons (λ c. (c == byte) ≡ false) b bs (other (b == byte) first) (Lacks-all byte bs rest)

pub parted-lacks : (byte : ℕ) (text : List ℕ) → lacks byte text ≡ true → parted_by byte text ≡ text ∷ []
parted-lacks byte text none = slice_split_none (λ b. b == byte) text (Lacks-all byte text none)

pub parted-joined : (byte : ℕ) (word : List ℕ) (words : List (List ℕ)) → all_lack byte (word ∷ words) ≡ true → parted_by byte (join_with_byte byte (word ∷ words)) ≡ word ∷ words
parted-joined byte word [] lack = parted-lacks byte word (and_parts (lacks byte word) true lack).0
parted-joined byte word (next ∷ words) lack =
    let (first, rest) = and_parts (lacks byte word) (all_lack byte (next ∷ words)) lack in
    slice_split_at (λ b. b == byte) word byte (join_with_byte byte (next ∷ words)) (Lacks-all byte word first) (eq-eqb byte byte refl)
    ∙ ap (λ ws. word ∷ ws) (parted-joined byte next words rest)

lack-onto : (byte b : ℕ) (words : List (List ℕ)) → not (b == byte) ≡ true → all_lack byte words ≡ true → all_lack byte (onto_first b words) ≡ true
lack-onto byte b [] none lack = and_from (not (b == byte) && true) true (and_from (not (b == byte)) true none refl) refl
lack-onto byte b (word ∷ words) none lack =
    let (first, rest) = and_parts (lacks byte word) (all_lack byte words) lack in
    and_from (not (b == byte) && lacks byte word) (all_lack byte words) (and_from (not (b == byte)) (lacks byte word) none first) rest

pub all_lack-parted : (byte : ℕ) (text : List ℕ) → all_lack byte (parted_by byte text) ≡ true
all_lack-parted byte [] = refl
all_lack-parted byte (b ∷ bs) =
    elim (b == byte) as (λ t. (b == byte) ≡ t → all_lack byte (cond t ([] ∷ parted_by byte bs) (onto_first b (parted_by byte bs))) ≡ true) [
      | true ↦ λ _. all_lack-parted byte bs
      | false ↦ λ e. lack-onto byte b (parted_by byte bs) (ap not e) (all_lack-parted byte bs)
    ] refl
