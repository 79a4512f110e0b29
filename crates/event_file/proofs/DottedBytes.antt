-- An address is read a byte at a time, each up to the dot behind it.
use Rattle.std.proofs.Common.{◌≡◌, ◌<◌, ◌≤◌, ◌+◌, ◌∙◌, ◌++◌, ◌∷◌, [], Bool, List, length, take, get_or, ap, sym, refl, arith, inl, inr, Option, Some, None, ◌==◌, ◌≢◌, ℕ, subst, below_more}
use Rattle.std.specs.Int.{IsInRange, w32, from_be_bytes}
use Rattle.std.specs.List.{after_first, before_first, between, position_or_len}
use Rattle.std.specs.Str.Parse.{AllDigits}
use Rattle.std.proofs.lemmas.Bool.{cases_lt}
use Rattle.std.proofs.lemmas.List.{get_or_default, get_or-take, length-take-le}
use Rattle.std.proofs.lemmas.List.Splits.{length-slice_split, slice_split_first, slice_split_none}
use Rattle.std.proofs.lemmas.List.Sums.{passes_at_first, fails_before_first}
use Rattle.std.proofs.lemmas.Str.Parse.{digit_at}
use Rattle.event_file.specs.Words.{inet_of, inet_of_parts, number_to, parted_by, ◌>>=◌}
use Rattle.event_file.proofs.Cutting.{parted_there}
use Rattle.event_file.proofs.Decimals.{is_printed, no_number, printed_byte, printed_digits}
use Rattle.event_file.proofs.Places.{NoneBefore, found}

-- ---- parts of which one is no byte are no address

abbrev joined : Option ℕ → Option ℕ → Option ℕ → Option ℕ → Option ℕ
joined a b c d = a >>= (λ a. b >>= (λ b. c >>= (λ c. d >>= (λ d. Some (from_be_bytes w32 (a ∷ b ∷ c ∷ d ∷ []))))))

first : (a b c d : Option ℕ) → a ≡ None → joined a b c d ≡ None
first a b c d none = rw none refl

second : (a b c d : Option ℕ) → b ≡ None → joined a b c d ≡ None
second None b c d none = refl
second (Some a) b c d none = rw none refl

third : (a b c d : Option ℕ) → c ≡ None → joined a b c d ≡ None
third None b c d none = refl
third (Some a) None c d none = refl
third (Some a) (Some b) c d none = rw none refl

fourth : (a b c d : Option ℕ) → d ≡ None → joined a b c d ≡ None
fourth None b c d none = refl
fourth (Some a) None c d none = refl
fourth (Some a) (Some b) None d none = refl
fourth (Some a) (Some b) (Some c) d none = rw none refl

pub no_address : (before : List (List ℕ)) (part : List ℕ) (behind : List (List ℕ)) → length before ≤ 3 → number_to 255 part ≡ None
    → inet_of_parts (before ++ part ∷ behind) ≡ None
no_address [] part (b ∷ c ∷ d ∷ []) few none = first (number_to 255 part) (number_to 255 b) (number_to 255 c) (number_to 255 d) none
no_address (a ∷ []) part (c ∷ d ∷ []) few none = second (number_to 255 a) (number_to 255 part) (number_to 255 c) (number_to 255 d) none
no_address (a ∷ b ∷ []) part (d ∷ []) few none = third (number_to 255 a) (number_to 255 b) (number_to 255 part) (number_to 255 d) none
no_address (a ∷ b ∷ c ∷ []) part [] few none = fourth (number_to 255 a) (number_to 255 b) (number_to 255 c) (number_to 255 part) none
no_address [] part [] few none = refl
no_address [] part (b ∷ []) few none = refl
no_address [] part (b ∷ c ∷ []) few none = refl
no_address [] part (b ∷ c ∷ d ∷ e ∷ behind) few none = refl
no_address (a ∷ []) part [] few none = refl
no_address (a ∷ []) part (c ∷ []) few none = refl
no_address (a ∷ []) part (c ∷ d ∷ e ∷ behind) few none = refl
no_address (a ∷ b ∷ []) part [] few none = refl
no_address (a ∷ b ∷ []) part (d ∷ e ∷ behind) few none = refl
no_address (a ∷ b ∷ c ∷ []) part (e ∷ behind) few none = refl
no_address (a ∷ b ∷ c ∷ d ∷ before) part behind few none = absurd (omega (arith, few))

four_bytes : (a b c d : ℕ) (p q r s : List ℕ) → number_to 255 p ≡ Some a → number_to 255 q ≡ Some b → number_to 255 r ≡ Some c → number_to 255 s ≡ Some d
    → inet_of_parts (p ∷ q ∷ r ∷ s ∷ []) ≡ Some (from_be_bytes w32 (a ∷ b ∷ c ∷ d ∷ []))
four_bytes a b c d p q r s x y z w =
    ap (λ (o : Option ℕ). joined o (number_to 255 q) (number_to 255 r) (number_to 255 s)) x
    ∙ ap (λ (o : Option ℕ). joined (Some a) o (number_to 255 r) (number_to 255 s)) y
    ∙ ap (λ (o : Option ℕ). joined (Some a) (Some b) o (number_to 255 s)) z
    ∙ ap (λ (o : Option ℕ). joined (Some a) (Some b) (Some c) o) w

-- nor are too few
pub too_few : (before : List (List ℕ)) (part : List ℕ) → length before ≤ 2 → inet_of_parts (before ++ part ∷ []) ≡ None
too_few [] part few = refl
too_few (a ∷ []) part few = refl
too_few (a ∷ b ∷ []) part few = refl
too_few (a ∷ b ∷ c ∷ before) part few = absurd (omega (arith, few))

-- ---- the first part of a text

abbrev is_dot : ℕ → Bool
is_dot b = b == 46

-- digits hold no dot
pub no_dot : (text : List ℕ) (at : ℕ) → at ≤ length text → AllDigits 10 (take at text) → NoneBefore 46 text at
no_dot text at fits digits k below =
    let long = length-take-le at text fits in
    let same : get_or (take at text) k 0 ≡ get_or text k 0 = get_or-take at text k 0 below in
    let range = digit_at (take at text) k digits (omega (arith, long, below)) in
    let high : 46 < get_or text k 0 = omega (arith, same, range) in
    grind arith

-- and they are one part
pub whole_part : (text : List ℕ) → AllDigits 10 text → parted_by 46 text ≡ text ∷ []
whole_part text digits = slice_split_none is_dot text (λ k d l.
    let same : get_or text k d ≡ get_or text k 0 = get_or_default text k d 0 l in
    let range = digit_at text k digits l in
    let high : 46 < get_or text k d = omega (arith, same, range) in
    grind arith)

no_dot_at : (text : List ℕ) (at : ℕ) → NoneBefore 46 text at → get_or text at 0 ≢ 46 → NoneBefore 46 text (at + 1)
no_dot_at text at before here = below_more _ _ before (grind arith)

-- the first part of a text goes past this place
record GoesPast (text : List ℕ) (at : ℕ) : Type 0 where
  part : List ℕ
  behind : List (List ℕ)
  parts : parted_by 46 text ≡ part ∷ behind
  past : at < length part
  same : get_or part at 0 ≡ get_or text at 0

-- so it does where no dot stands up to there
goes_past : (text : List ℕ) (at : ℕ) → at < length text → NoneBefore 46 text (at + 1) → GoesPast text at
goes_past text at there none = elim (cases_lt (position_or_len is_dot text) (length text)) [
  | inl dot ↦
      let past : at < position_or_len is_dot text = elim (cases_lt at (position_or_len is_dot text)) [
        | inl past ↦ past
        | inr early ↦ absurd (cc (none (position_or_len is_dot text) (omega (arith, early)), passes_at_first is_dot text 0 dot))
      ] in
      let long = length-take-le (position_or_len is_dot text) text (omega (arith, dot)) in
      record {
        part = before_first is_dot text;
        behind = parted_by 46 (after_first is_dot text);
        parts = slice_split_first is_dot text 0 dot;
        past = omega (arith, long, past);
        same = get_or-take (position_or_len is_dot text) text at 0 past;
      }
  | inr all ↦ record {
    part = text;
    behind = [];
    parts = slice_split_none is_dot text (λ k d l. fails_before_first is_dot text k d (omega (arith, l, all)));
    past = there;
    same = refl;
  }
]

-- ---- what is no address, by its first part, whatever stands before it

abbrev pub NoAddress : List ℕ → Type 0
NoAddress text = (before : List (List ℕ)) → length before ≤ 2 → inet_of_parts (before ++ parted_by 46 text) ≡ None

pub no_first : (text part : List ℕ) (behind : List (List ℕ)) → parted_by 46 text ≡ part ∷ behind → number_to 255 part ≡ None → NoAddress text
no_first text part behind parts none before few = rw parts (no_address before part behind (omega (arith, few)) none)

-- a byte that is neither a digit nor a dot
pub no_digit : (text : List ℕ) (at : ℕ) → at < length text → AllDigits 10 (take at text) → get_or text at 0 ≢ 46
    → (IsInRange 48 57 (get_or text at 0) → ⊥) → NoAddress text
no_digit text at there digits dot digit =
    let g = goes_past text at there (no_dot_at text at (no_dot text at (omega (arith, there)) digits) dot) in
    no_first text g.part g.behind g.parts (no_number 255 g.part (λ n small e.
    digit (subst (IsInRange 48 57) g.same (digit_at g.part at (printed_digits n g.part (omega (arith, small)) e) g.past))))

-- more digits than a byte has
pub too_long : (text : List ℕ) (at : ℕ) → at ≡ 3 → at < length text → AllDigits 10 (take at text) → get_or text at 0 ≢ 46 → NoAddress text
too_long text at three there digits dot =
    let g = goes_past text at there (no_dot_at text at (no_dot text at (omega (arith, there)) digits) dot) in
    no_first text g.part g.behind g.parts (no_number 255 g.part (λ n small e. omega (arith, three, g.past, printed_byte n g.part small e)))

-- digits alone
pub no_more : (text : List ℕ) → AllDigits 10 text → NoAddress text
no_more text digits before few = rw (whole_part text digits) (too_few before text few)

-- the part before the dot that is there
pub dotted_part : (text : List ℕ) (at : ℕ) → at < length text → AllDigits 10 (take at text) → get_or text at 0 ≡ 46
    → parted_by 46 text ≡ take at text ∷ parted_by 46 (between (at + 1) (length text) text)
dotted_part text at there digits dot =
    parted_there 46 at text (found 46 at text (no_dot text at (omega (arith, there)) digits) there (rw dot refl))

-- ---- the last part

-- a byte has no dot in it
pub whole_byte : (n : ℕ) (text : List ℕ) → number_to 255 text ≡ Some n → parted_by 46 text ≡ text ∷ []
whole_byte n text read =
    let is = is_printed 255 n text read in whole_part text (printed_digits n text (omega (arith, is.0)) is.1)

too_many : (a b c part : List ℕ) (behind : List (List ℕ)) → 1 ≤ length behind → inet_of_parts (a ∷ b ∷ c ∷ part ∷ behind) ≡ None
too_many a b c part [] some = absurd (omega (arith, some))
too_many a b c part (more ∷ behind) some = refl

pub no_last : (a b c text : List ℕ) → number_to 255 text ≡ None → inet_of_parts (a ∷ b ∷ c ∷ parted_by 46 text) ≡ None
no_last a b c text none = elim (cases_lt (position_or_len is_dot text) (length text)) [
  | inl dot ↦
      let some = length-slice_split is_dot (after_first is_dot text) in
      rw (slice_split_first is_dot text 0 dot) (too_many a b c (before_first is_dot text) _ (omega (arith, some)))
  | inr all ↦
      let one = slice_split_none is_dot text (λ k d l. fails_before_first is_dot text k d (omega (arith, l, all))) in
      rw one (no_address (a ∷ b ∷ c ∷ []) text [] (omega arith) none)
]

-- ---- the address whose bytes were read

-- a text begins with a byte's part, and these bytes stand behind its dot
abbrev pub Begins : List ℕ → ℕ → List ℕ → Type 0
Begins text n rest = (part : List ℕ) × (parted_by 46 text ≡ part ∷ parted_by 46 rest) × (number_to 255 part ≡ Some n)

pub none_behind_one : (word r : List ℕ) (a : ℕ) → Begins word a r → NoAddress r → None ≡ inet_of word
none_behind_one word r a first none = rw first.1 (sym (none (first.0 ∷ []) (omega arith)))

pub none_behind_two : (word r s : List ℕ) (a b : ℕ) → Begins word a r → Begins r b s → NoAddress s → None ≡ inet_of word
none_behind_two word r s a b first second none = rw (first.1, second.1) (sym (none (first.0 ∷ second.0 ∷ []) (omega arith)))

pub none_behind_three : (word r s t : List ℕ) (a b c : ℕ) → Begins word a r → Begins r b s → Begins s c t → None ≡ number_to 255 t → None ≡ inet_of word
none_behind_three word r s t a b c first second third none =
    rw (first.1, second.1, third.1) (sym (no_last first.0 second.0 third.0 t (sym none)))

pub address_read : (word r s t : List ℕ) (a b c d : ℕ) → Begins word a r → Begins r b s → Begins s c t → Some d ≡ number_to 255 t
    → Some (from_be_bytes w32 (a ∷ b ∷ c ∷ d ∷ [])) ≡ inet_of word
address_read word r s t a b c d first second third last =
    rw (first.1, second.1, third.1, whole_byte d t (sym last)) (sym (four_bytes a b c d first.0 second.0 third.0 t first.2 second.2 third.2 (sym last)))
