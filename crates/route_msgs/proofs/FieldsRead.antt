-- What stands at an offset once fields are in their places.
use Rattle.std.proofs.Common.{◌≡◌, ℕ, zero, suc, ◌+◌, ◌-◌, ◌<◌, ◌≤◌, ◌^◌, Bool, true, false, ◌&&◌, ◌||◌, nat_le, ◌==◌, List, [], ◌∷◌, ◌++◌, length, take, drop, get_or, refl, sym, ap, ◌∙◌, arith, ◌⊎◌, inl, inr, length-append, length-drop, length-take-le, append_assoc, drop_at, get_or-drop, get_or-take, get_or-append-add}
use Rattle.std.specs.Prelude.{slice_index, if◌then◌else◌}
use Rattle.std.proofs.lemmas.List.{get_or_append_left}
use Rattle.std.proofs.lemmas.Bool.{eqb-true, leb-true}
use Rattle.byteorder.specs.Endian.{big_from, big_number, big_bytes}
use Rattle.byteorder.specs.Numbers.{big_number-reads_back, length-bytes_high_first}
use Rattle.route_msgs.specs.Layout.{Field, number_at, with_field, with_fields}

big_from-same : (i n : ℕ) (xs ys : List ℕ) → ((j : ℕ) → i ≤ j → j < i + n → slice_index xs j ≡ slice_index ys j) → big_from i n xs ≡ big_from i n ys
big_from-same i zero xs ys h = refl
big_from-same i (suc n) xs ys h =
    let rest : big_from (suc i) n xs ≡ big_from (suc i) n ys = big_from-same (suc i) n xs ys (λ j a b. h j (omega arith) (omega arith)) in
    let first : slice_index xs i ≡ slice_index ys i = h i (omega arith) (omega arith) in
    rw (first, rest) refl

-- a number depends on its own bytes alone
pub number_at-same : (o w : ℕ) (xs ys : List ℕ) → ((j : ℕ) → o ≤ j → j < o + w → slice_index xs j ≡ slice_index ys j) → number_at o w xs ≡ number_at o w ys
unfolding number_at
number_at-same o w xs ys h =
    big_from-same 0 w (drop o xs) (drop o ys) (λ j a b. get_or-drop o xs j 0 ∙ h (o + j) (omega arith) (omega arith) ∙ sym (get_or-drop o ys j 0))

-- and not on what follows
pub number_at-append : (o w : ℕ) (xs ys : List ℕ) → o + w ≤ length xs → number_at o w (xs ++ ys) ≡ number_at o w xs
number_at-append o w xs ys fits = number_at-same o w (xs ++ ys) xs (λ j a b. get_or_append_left xs ys 0 j (omega arith))

pub length-with_field : (f : Field) (m : List ℕ) → f.offset + f.width ≤ length m → length (with_field f m) ≡ length m
unfolding with_field
length-with_field f m fits =
    let front = take f.offset m in
    let bytes = big_bytes f.width f.value in
    let rest = drop (f.offset + f.width) m in
    let a : length front ≡ f.offset = length-take-le f.offset m (omega arith) in
    let b : length bytes ≡ f.width = length-bytes_high_first f.width f.value in
    omega (arith, length-append (front ++ bytes) rest, length-append front bytes, length-drop (f.offset + f.width) m, a, b)

-- the field itself
pub number_at-with_field : (f : Field) (m : List ℕ) → f.offset + f.width ≤ length m → f.value < 256 ^ f.width → number_at f.offset f.width (with_field f m) ≡ f.value
unfolding number_at with_field
number_at-with_field f m fits small =
    let front = take f.offset m in
    let bytes = big_bytes f.width f.value in
    let rest = drop (f.offset + f.width) m in
    let a : length front ≡ f.offset = length-take-le f.offset m (omega arith) in
    let e : drop f.offset ((front ++ bytes) ++ rest) ≡ bytes ++ rest = ap (drop f.offset) (append_assoc front bytes rest) ∙ drop_at front (bytes ++ rest) f.offset a in
    ap (big_number f.width) e ∙ big_number-reads_back f.width f.value rest small

-- a byte before the field or behind it
byte-with_field : (f : Field) (m : List ℕ) (j : ℕ) → f.offset + f.width ≤ length m → (j < f.offset) ⊎ (f.offset + f.width ≤ j) → slice_index (with_field f m) j ≡ slice_index m j
unfolding with_field
byte-with_field f m j fits where_it_is =
    let front = take f.offset m in
    let bytes = big_bytes f.width f.value in
    let rest = drop (f.offset + f.width) m in
    let a : length front ≡ f.offset = length-take-le f.offset m (omega arith) in
    let b : length bytes ≡ f.width = length-bytes_high_first f.width f.value in
    let ab : length (front ++ bytes) ≡ f.offset + f.width = omega (arith, length-append front bytes, a, b) in
    elim where_it_is [
      | inl before ↦
          get_or_append_left (front ++ bytes) rest 0 j (omega arith)
          ∙ get_or_append_left front bytes 0 j (omega arith)
          ∙ get_or-take f.offset m j 0 before
      | inr behind ↦
          let i : ℕ = j - (f.offset + f.width) in
          let at : j ≡ length (front ++ bytes) + i = omega arith in
          let there : f.offset + f.width + i ≡ j = omega arith in
          ap (λ k. get_or ((front ++ bytes) ++ rest) k 0) at
          ∙ get_or-append-add (front ++ bytes) rest i 0
          ∙ get_or-drop (f.offset + f.width) m i 0
          ∙ ap (λ k. get_or m k 0) there
    ]

abbrev pub is_same : ℕ → ℕ → Field → Bool
is_same o w f = (o == f.offset) && (w == f.width)

abbrev pub is_apart : ℕ → ℕ → Field → Bool
is_apart o w f = nat_le (o + w) f.offset || nat_le (f.offset + f.width) o

-- the value of the last of the fields that stands here
abbrev pub value_among : ℕ → ℕ → List Field → ℕ → ℕ
value_among o w [] d = d
value_among o w (f ∷ fs) d = value_among o w fs (if is_same o w f then f.value else d)

-- each of the fields stands here or elsewhere
abbrev pub are_clear : ℕ → ℕ → List Field → Bool
are_clear o w [] = true
are_clear o w (f ∷ fs) = (is_same o w f || is_apart o w f) && are_clear o w fs

pub record FitsIn (n : ℕ) (f : Field) : Type 0 where
  pub within : f.offset + f.width ≤ n
  pub small : f.value < 256 ^ f.width

abbrev pub AllFitIn : ℕ → List Field → Type 0
AllFitIn n [] = Unit {0}
AllFitIn n (f ∷ fs) = FitsIn n f × AllFitIn n fs

pub both : (a b : Bool) → (a && b) ≡ true → (a ≡ true) × (b ≡ true)
both true b h = (refl, h)
both false b h = cc

either : (a b : Bool) → (a || b) ≡ true → (a ≡ true) ⊎ (b ≡ true)
either true b h = inl refl
either false b h = inr h

pub read_apart : (o w : ℕ) (f : Field) (m : List ℕ) → f.offset + f.width ≤ length m → is_apart o w f ≡ true → number_at o w (with_field f m) ≡ number_at o w m
read_apart o w f m fits h =
    number_at-same o w (with_field f m) m (λ j a b. byte-with_field f m j fits (elim (either _ _ h) [
      | inl before ↦ let l : o + w ≤ f.offset = leb-true (o + w) f.offset before in inl (omega arith)
      | inr behind ↦ let l : f.offset + f.width ≤ o = leb-true (f.offset + f.width) o behind in inr (omega arith)
    ]))

read_one : (o w d : ℕ) (f : Field) (m : List ℕ) (b : Bool) → FitsIn (length m) f → is_same o w f ≡ b → (b || is_apart o w f) ≡ true → number_at o w m ≡ d → number_at o w (with_field f m) ≡ (if b then f.value else d)
read_one o w d f m true fits same clear e =
    let parts : (◌≡◌ (o == f.offset) true) × (◌≡◌ (w == f.width) true) = both (o == f.offset) (w == f.width) same in
    rw (eqb-true o f.offset parts.0, eqb-true w f.width parts.1) (number_at-with_field f m fits.within fits.small)
read_one o w d f m false fits same clear e = read_apart o w f m fits.within clear ∙ e

-- what stands at an offset is the value of the last field that was put there
pub read_fields : (o w d : ℕ) (fs : List Field) (m : List ℕ) → AllFitIn (length m) fs → are_clear o w fs ≡ true → number_at o w m ≡ d → number_at o w (with_fields fs m) ≡ value_among o w fs d
read_fields o w d [] m fits clear e = e
read_fields o w d (f ∷ fs) m fits clear e =
    let parts : ((is_same o w f || is_apart o w f) ≡ true) × (are_clear o w fs ≡ true) = both (is_same o w f || is_apart o w f) (are_clear o w fs) clear in
    let more : AllFitIn (length (with_field f m)) fs = rw (length-with_field f m fits.0.within) fits.1 in
    read_fields o w (if is_same o w f then f.value else d) fs (with_field f m) more parts.1 (read_one o w d f m (is_same o w f) fits.0 refl parts.0 e)

pub length-with_fields : (fs : List Field) (m : List ℕ) → AllFitIn (length m) fs → length (with_fields fs m) ≡ length m
length-with_fields [] m fits = refl
length-with_fields (f ∷ fs) m fits =
    let size : length (with_field f m) ≡ length m = length-with_field f m fits.0.within in
    let more : AllFitIn (length (with_field f m)) fs = rw size fits.1 in
    length-with_fields fs (with_field f m) more ∙ size
