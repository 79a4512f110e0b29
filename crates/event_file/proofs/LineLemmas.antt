-- Lemmas on the lines of a script, and on what has come of one.
use Rattle.std.proofs.Common.{◌≡◌, ℕ, suc, ◌+◌, ◌<◌, Bool, true, false, cond, not, ◌||◌, nat_lt, List, [], ◌∷◌, ◌++◌, length, take, Option, Some, None, MatchOption, arith, refl, sym, ap, ◌∙◌, subst, length-append}
use Rattle.std.specs.Prelude.{position, map, filter}
use Rattle.std.specs.List.{position_or_len}
use Rattle.std.proofs.lemmas.List.{take_all, map-append}
use Rattle.std.proofs.lemmas.Bool.{ltb-true, ltb-false, or_parts, cond-true, cond-false, lt-ltb, le-ltb, eqb-true}
use Rattle.event_file.specs.Lines.{Line, is_newline, has_newline, first_line, ended_lines, begun_line, onto_first, lines_of, kept, extended, is_answered, answered_lines, most_line_bytes}

-- ---- the first newline

first_line-place : (xs : List ℕ) → first_line xs ≡ take (position_or_len is_newline xs) xs
first_line-place [] = refl
first_line-place (b ∷ bs) =
    let n = position_or_len is_newline bs in
    elim (is_newline b) as (λ t. cond t [] (b ∷ first_line bs) ≡ take (cond (not t) (1 + n) 0) (b ∷ bs)) [
      | true ↦ refl
      | false ↦ let e : 1 + n ≡ suc n = omega arith in subst (λ m. b ∷ first_line bs ≡ take m (b ∷ bs)) (sym e) (ap (λ l. b ∷ l) (first_line-place bs))
    ]

lt_one_more : (n m : ℕ) → nat_lt n m ≡ nat_lt (1 + n) (suc m)
lt_one_more n m = elim (nat_lt n m) as (λ t. nat_lt n m ≡ t → t ≡ nat_lt (1 + n) (suc m)) [
  | true ↦ λ e. sym (lt-ltb (1 + n) (suc m) (omega (arith, ltb-true n m e)))
  | false ↦ λ e. sym (le-ltb (1 + n) (suc m) (omega (arith, ltb-false n m e)))
] refl

has_newline-place : (xs : List ℕ) → has_newline xs ≡ nat_lt (position_or_len is_newline xs) (length xs)
has_newline-place [] = refl
has_newline-place (b ∷ bs) =
    let n = position_or_len is_newline bs in
    elim (is_newline b) as (λ t. (t || has_newline bs) ≡ nat_lt (cond (not t) (1 + n) 0) (length (b ∷ bs))) [
      | true ↦ sym (lt-ltb 0 (suc (length bs)) (omega arith))
      | false ↦ has_newline-place bs ∙ lt_one_more n (length bs)
    ]

at_place : (xs : List ℕ) (p : ℕ) (t : Bool) → nat_lt p (length xs) ≡ t → has_newline xs ≡ t → first_line xs ≡ take p xs
    → MatchOption (cond t (Some p) None) ((has_newline xs ≡ false) × (first_line xs ≡ xs)) (λ at. (at < length xs) × (has_newline xs ≡ true) × (first_line xs ≡ take at xs))
at_place xs p true below has first = (ltb-true p (length xs) below, has, first)
at_place xs p false below has first = (has, first ∙ take_all p xs (ltb-false p (length xs) below))

-- what the place of the first newline says of the first line
pub newline_at : (xs : List ℕ) (r : Option ℕ) → r ≡ position is_newline xs
    → MatchOption r ((has_newline xs ≡ false) × (first_line xs ≡ xs)) (λ at. (at < length xs) × (has_newline xs ≡ true) × (first_line xs ≡ take at xs))
newline_at xs r e =
    subst (λ o. MatchOption o ((has_newline xs ≡ false) × (first_line xs ≡ xs)) (λ at. (at < length xs) × (has_newline xs ≡ true) × (first_line xs ≡ take at xs))) (sym e)
    (at_place xs (position_or_len is_newline xs) (nat_lt (position_or_len is_newline xs) (length xs)) refl (has_newline-place xs) (first_line-place xs))

pub first_line-none : (xs : List ℕ) → has_newline xs ≡ false → first_line xs ≡ xs
first_line-none [] none = refl
first_line-none (b ∷ bs) none =
    let parts = or_parts (is_newline b) (has_newline bs) none in
    cond-false (is_newline b) [] (b ∷ first_line bs) parts.0 ∙ ap (λ l. b ∷ l) (first_line-none bs parts.1)

pub first_line-no_newline : (xs : List ℕ) → has_newline (first_line xs) ≡ false
first_line-no_newline [] = refl
first_line-no_newline (b ∷ bs) = elim (is_newline b) as (λ t. is_newline b ≡ t → has_newline (cond t [] (b ∷ first_line bs)) ≡ false) [
  | true ↦ λ _. refl
  | false ↦ λ is. ap (λ t. t || has_newline (first_line bs)) is ∙ first_line-no_newline bs
] refl

-- the first line with its newline
pub take-first_line : (xs : List ℕ) → has_newline xs ≡ true → take (suc (length (first_line xs))) xs ≡ first_line xs ++ 10 ∷ []
take-first_line [] has = absurd (cc)
take-first_line (b ∷ bs) has = elim (is_newline b) as (λ t. is_newline b ≡ t → (t || has_newline bs) ≡ true
    → take (suc (length (cond t [] (b ∷ first_line bs)))) (b ∷ bs) ≡ cond t [] (b ∷ first_line bs) ++ 10 ∷ []) [
      | true ↦ λ is _. ap (λ n. n ∷ []) (eqb-true b 10 is)
      | false ↦ λ is more. ap (λ l. b ∷ l) (take-first_line bs more)
    ] refl has

-- ---- a newline in a longer text

pub has_newline-append : (xs ys : List ℕ) → has_newline (xs ++ ys) ≡ (has_newline xs || has_newline ys)
has_newline-append [] ys = refl
has_newline-append (b ∷ bs) ys = elim (is_newline b) as (λ t. (t || has_newline (bs ++ ys)) ≡ ((t || has_newline bs) || has_newline ys)) [
  | true ↦ refl
  | false ↦ has_newline-append bs ys
]

has_newline-kept : (xs ys : List ℕ) → has_newline ys ≡ false → has_newline (xs ++ ys) ≡ has_newline xs
has_newline-kept xs ys none = has_newline-append xs ys ∙ ap (λ t. has_newline xs || t) none ∙ elim (has_newline xs) as (λ t. (t || false) ≡ t) [ true ↦ refl | false ↦ refl ]

has_newline-end : (xs : List ℕ) → has_newline (xs ++ 10 ∷ []) ≡ true
has_newline-end [] = refl
has_newline-end (b ∷ bs) = elim (is_newline b) as (λ t. (t || has_newline (bs ++ 10 ∷ [])) ≡ true) [ true ↦ refl | false ↦ has_newline-end bs ]

-- ---- the lines that are whole, and what has come of the next

-- together they are all bytes
pub ended-append-begun : (xs : List ℕ) → ended_lines xs ++ begun_line xs ≡ xs
ended-append-begun [] = refl
ended-append-begun (b ∷ bs) = elim (has_newline (b ∷ bs)) as (λ t. cond t (b ∷ ended_lines bs) [] ++ cond t (begun_line bs) (b ∷ bs) ≡ b ∷ bs) [
  | true ↦ ap (λ l. b ∷ l) (ended-append-begun bs)
  | false ↦ refl
]

ended_lines-none : (ys : List ℕ) → has_newline ys ≡ false → ended_lines ys ≡ []
ended_lines-none [] none = refl
ended_lines-none (b ∷ bs) none = cond-false (has_newline (b ∷ bs)) (b ∷ ended_lines bs) [] none

begun_line-none : (ys : List ℕ) → has_newline ys ≡ false → begun_line ys ≡ ys
begun_line-none [] none = refl
begun_line-none (b ∷ bs) none = cond-false (has_newline (b ∷ bs)) (begun_line bs) (b ∷ bs) none

-- bytes without a newline end no line
pub ended_lines-more : (xs ys : List ℕ) → has_newline ys ≡ false → ended_lines (xs ++ ys) ≡ ended_lines xs
ended_lines-more [] ys none = ended_lines-none ys none
ended_lines-more (b ∷ bs) ys none =
    ap (λ t. cond t (b ∷ ended_lines (bs ++ ys)) []) (has_newline-kept (b ∷ bs) ys none)
    ∙ ap (λ l. cond (has_newline (b ∷ bs)) (b ∷ l) []) (ended_lines-more bs ys none)

-- bytes without a newline go onto the line that has begun
pub begun_line-more : (xs ys : List ℕ) → has_newline ys ≡ false → begun_line (xs ++ ys) ≡ begun_line xs ++ ys
begun_line-more [] ys none = begun_line-none ys none
begun_line-more (b ∷ bs) ys none =
    ap (λ t. cond t (begun_line (bs ++ ys)) (b ∷ (bs ++ ys))) (has_newline-kept (b ∷ bs) ys none)
    ∙ elim (has_newline (b ∷ bs)) as (λ t. cond t (begun_line (bs ++ ys)) (b ∷ (bs ++ ys)) ≡ cond t (begun_line bs) (b ∷ bs) ++ ys) [
      | true ↦ begun_line-more bs ys none
      | false ↦ refl
    ]

-- bytes that follow change no line that is whole
pub ended_lines-append : (xs ys : List ℕ) → ended_lines (xs ++ ys) ≡ ended_lines xs ++ ended_lines (begun_line xs ++ ys)
ended_lines-append [] ys = refl
ended_lines-append (b ∷ bs) ys = elim (has_newline (b ∷ bs)) as (λ t. has_newline (b ∷ bs) ≡ t
    → ended_lines (b ∷ (bs ++ ys)) ≡ cond t (b ∷ ended_lines bs) [] ++ ended_lines (cond t (begun_line bs) (b ∷ bs) ++ ys)) [
      | true ↦ λ has.
          cond-true (has_newline (b ∷ (bs ++ ys))) (b ∷ ended_lines (bs ++ ys)) [] (has_newline-append (b ∷ bs) ys ∙ ap (λ t. t || has_newline ys) has)
          ∙ ap (λ l. b ∷ l) (ended_lines-append bs ys)
      | false ↦ λ _. refl
    ] refl

-- a newline ends all lines
pub ended_lines-end : (xs : List ℕ) → ended_lines (xs ++ 10 ∷ []) ≡ xs ++ 10 ∷ []
ended_lines-end [] = refl
ended_lines-end (b ∷ bs) =
    cond-true (has_newline (b ∷ (bs ++ 10 ∷ []))) (b ∷ ended_lines (bs ++ 10 ∷ [])) [] (has_newline-end (b ∷ bs))
    ∙ ap (λ l. b ∷ l) (ended_lines-end bs)

pub begun_line-end : (xs : List ℕ) → begun_line (xs ++ 10 ∷ []) ≡ []
begun_line-end [] = refl
begun_line-end (b ∷ bs) =
    cond-true (has_newline (b ∷ (bs ++ 10 ∷ []))) (begun_line (bs ++ 10 ∷ [])) (b ∷ (bs ++ 10 ∷ [])) (has_newline-end (b ∷ bs))
    ∙ begun_line-end bs

pub begun_line-no_newline : (xs : List ℕ) → has_newline (begun_line xs) ≡ false
begun_line-no_newline [] = refl
begun_line-no_newline (b ∷ bs) = elim (has_newline (b ∷ bs)) as (λ t. has_newline (b ∷ bs) ≡ t → has_newline (cond t (begun_line bs) (b ∷ bs)) ≡ false) [
  | true ↦ λ _. begun_line-no_newline bs
  | false ↦ λ none. none
] refl

-- ---- the lines of a longer text

onto_first-append : (b : ℕ) (lines more : List (List ℕ)) → (0 < length lines) → onto_first b (lines ++ more) ≡ onto_first b lines ++ more
onto_first-append b [] more some = absurd (omega arith)
onto_first-append b (line ∷ lines) more some = refl

some_onto_first : (b : ℕ) (lines : List (List ℕ)) → 0 < length (onto_first b lines)
some_onto_first b [] = omega arith
some_onto_first b (line ∷ lines) = omega arith

pub some_lines : (b : ℕ) (bs : List ℕ) → 0 < length (lines_of (b ∷ bs))
some_lines b bs = elim (is_newline b) as (λ t. 0 < length (cond t ([] ∷ lines_of bs) (onto_first b (lines_of bs)))) [
  | true ↦ omega arith
  | false ↦ some_onto_first b (lines_of bs)
]

some_ended : (bs : List ℕ) → has_newline bs ≡ true → 0 < length (lines_of (ended_lines bs))
some_ended [] has = absurd (cc)
some_ended (b ∷ bs) has = subst (λ l. 0 < length (lines_of l)) (sym (cond-true (has_newline (b ∷ bs)) (b ∷ ended_lines bs) [] has)) (some_lines b (ended_lines bs))

lines_newline : (b : ℕ) (bs : List ℕ) → is_newline b ≡ true → lines_of (b ∷ bs) ≡ [] ∷ lines_of bs
lines_newline b bs is = cond-true (is_newline b) ([] ∷ lines_of bs) (onto_first b (lines_of bs)) is

lines_other : (b : ℕ) (bs : List ℕ) → is_newline b ≡ false → lines_of (b ∷ bs) ≡ onto_first b (lines_of bs)
lines_other b bs is = cond-false (is_newline b) ([] ∷ lines_of bs) (onto_first b (lines_of bs)) is

-- lines that are whole stay as they are whatever follows
pub lines_of-ended : (xs ys : List ℕ) → lines_of (ended_lines xs ++ ys) ≡ lines_of (ended_lines xs) ++ lines_of ys
lines_of-ended [] ys = refl
lines_of-ended (b ∷ bs) ys =
    let front = ended_lines bs in
    elim (is_newline b) as (λ t. is_newline b ≡ t → lines_of (cond (t || has_newline bs) (b ∷ front) [] ++ ys) ≡ lines_of (cond (t || has_newline bs) (b ∷ front) []) ++ lines_of ys) [
      | true ↦ λ is. lines_newline b (front ++ ys) is ∙ ap (λ l. [] ∷ l) (lines_of-ended bs ys) ∙ ap (λ l. l ++ lines_of ys) (sym (lines_newline b front is))
      | false ↦ λ is. elim (has_newline bs) as (λ h. has_newline bs ≡ h → lines_of (cond h (b ∷ front) [] ++ ys) ≡ lines_of (cond h (b ∷ front) []) ++ lines_of ys) [
        | true ↦ λ has. lines_other b (front ++ ys) is ∙ ap (onto_first b) (lines_of-ended bs ys)
            ∙ onto_first-append b (lines_of front) (lines_of ys) (some_ended bs has) ∙ ap (λ l. l ++ lines_of ys) (sym (lines_other b front is))
        | false ↦ λ _. refl
      ] refl
    ] refl

pub lines_of-line : (line more : List ℕ) → has_newline line ≡ false → lines_of (line ++ 10 ∷ more) ≡ line ∷ lines_of more
lines_of-line [] more none = refl
lines_of-line (b ∷ bs) more none =
    let parts = or_parts (is_newline b) (has_newline bs) none in
    lines_other b (bs ++ 10 ∷ more) parts.0 ∙ ap (onto_first b) (lines_of-line bs more parts.1)

pub lines_of-last : (b : ℕ) (bs : List ℕ) → has_newline (b ∷ bs) ≡ false → lines_of (b ∷ bs) ≡ (b ∷ bs) ∷ []
lines_of-last b [] none = lines_other b [] (or_parts (is_newline b) false none).0
lines_of-last b (c ∷ bs) none =
    let parts = or_parts (is_newline b) (has_newline (c ∷ bs)) none in
    lines_other b (c ∷ bs) parts.0 ∙ ap (onto_first b) (lines_of-last c bs parts.1)

-- ---- the lines that are answered

filter-append : (xs ys : List (Option (List ℕ))) → filter is_answered (xs ++ ys) ≡ filter is_answered xs ++ filter is_answered ys
filter-append [] ys = refl
filter-append (x ∷ xs) ys =
    elim (is_answered x) as (λ t. cond t (x ∷ filter is_answered (xs ++ ys)) (filter is_answered (xs ++ ys)) ≡ cond t (x ∷ filter is_answered xs) (filter is_answered xs) ++ filter is_answered ys) [
      | true ↦ ap (λ l. x ∷ l) (filter-append xs ys)
      | false ↦ filter-append xs ys
    ]

-- whole lines are answered alike whatever follows
pub answered_lines-ended : (xs ys : List ℕ) → answered_lines (ended_lines xs ++ ys) ≡ answered_lines (ended_lines xs) ++ answered_lines ys
answered_lines-ended xs ys =
    ap (λ l. filter is_answered (map kept l)) (lines_of-ended xs ys)
    ∙ ap (filter is_answered) (map-append kept (lines_of (ended_lines xs)) (lines_of ys))
    ∙ filter-append (map kept (lines_of (ended_lines xs))) (map kept (lines_of ys))

-- a line with its newline is one line
pub answered_lines-line : (line : List ℕ) → has_newline line ≡ false → answered_lines (line ++ 10 ∷ []) ≡ filter is_answered (kept line ∷ [])
answered_lines-line line none = ap (λ l. filter is_answered (map kept l)) (lines_of-line line [] none)

-- what has come of a line is a line where it has a byte; where it has none, it would give no answer
pub answered_lines-last : (line : List ℕ) → has_newline line ≡ false → answered_lines line ≡ filter is_answered (kept line ∷ [])
answered_lines-last [] none = refl
answered_lines-last (b ∷ bs) none = ap (λ l. filter is_answered (map kept l)) (lines_of-last b bs none)

-- ---- a line that is kept

-- to keep a line and then to extend it is to keep the longer line
pub extended-kept : (line bytes : List ℕ) → extended (kept line) bytes ≡ kept (line ++ bytes)
extended-kept line bytes =
    elim (nat_lt most_line_bytes (length line)) as (λ t. nat_lt most_line_bytes (length line) ≡ t → extended (cond t None (Some line)) bytes ≡ kept (line ++ bytes)) [
      | true ↦ λ long.
          let longer : most_line_bytes < length (line ++ bytes) = omega (arith, length-append line bytes, ltb-true most_line_bytes (length line) long) in
          sym (cond-true (nat_lt most_line_bytes (length (line ++ bytes))) None (Some (line ++ bytes)) (lt-ltb most_line_bytes (length (line ++ bytes)) longer))
      | false ↦ λ _. refl
    ] refl

abbrev pub line_from : Option (List ℕ) → Bool → Line
line_from t a = record { text = t; ended = a }

-- two lines with the same parts
pub same_line : (t u : Option (List ℕ)) (a b : Bool) → t ≡ u → a ≡ b → line_from t a ≡ line_from u b
same_line t u a b p q = cc
