-- In how many places entries stand.
use Rattle.std.proofs.Common.{◌≡◌, ℕ, ◌+◌, ◌<◌, ◌≤◌, ◌==◌, not, cond, List, length, slice_index, slice_set, take, drop, None, inl, inr, sym, ap, ◌∙◌, arith}
use Rattle.std.proofs.lemmas.Bool.{cases_eq, eq-eqb, ne_eqb}
use Rattle.std.proofs.lemmas.List.{length-set, get_or-drop, get_or_past}
use Rattle.std.proofs.lemmas.List.Elements.{All-from_get_or}
use Rattle.std.proofs.lemmas.List.Sums.{sum_by-set, sum_by-le, sum_by-take-drop, count_by-le-length}
use Rattle.std.proofs.lemmas.Option.{none-some, slice_get_cases}
use Rattle.room_index.proofs.Standing.{stands_in}
use Rattle.room_index.specs.Places.{standing, used_in}
use Rattle.room_index.specs.Filed.{Filed}

-- what a place counts
abbrev counts : ℕ → ℕ
counts tag = cond (not (tag == 0)) 1 0

-- a place in which nothing stands has the tag 0
pub tag_of_free : (tags : List ℕ) (entries : List Filed) (n : ℕ) → length entries ≡ length tags → standing tags entries n ≡ None → slice_index tags n ≡ 0
tag_of_free tags entries n even free = elim (cases_eq (slice_index tags n) 0) [
  | inl zero ↦ zero
  | inr used ↦ elim (slice_get_cases entries n).1 [
    | inl there ↦ absurd (none-some there.0 (sym free ∙ stands_in tags entries n used ∙ there.2))
    | inr past ↦ get_or_past tags n 0 (omega (arith, past.0, even))
  ]
]

module _ (tags : List ℕ) (place : ℕ) (within : place < length tags) (free : slice_index tags place ≡ 0) where
  -- a place more is used
  pub used_more : (tag : ℕ) → (tag ≡ 0 → ⊥) → used_in (slice_set tags place tag) ≡ used_in tags + 1
  used_more tag used =
      let was : counts (slice_index tags place) ≡ 0 = ap (λ b. cond (not b) 1 0) (eq-eqb (slice_index tags place) 0 free) in
      let now : counts tag ≡ 1 = ap (λ b. cond (not b) 1 0) (ne_eqb tag 0 used) in
      omega (arith, sum_by-set counts tags place tag 0 within, was, now)

  -- fewer are than there are
  pub fewer_used : used_in tags < length tags
  fewer_used = omega (arith, used_more 1 (λ none. absurd (omega arith)), count_by-le-length (λ tag. not (tag == 0)) (slice_set tags place 1), length-set tags place 1)

-- the places of a front are all that are used where none is behind
pub used_before : (tags : List ℕ) (size : ℕ) → ((n : ℕ) → size ≤ n → slice_index tags n ≡ 0) → used_in (take size tags) ≡ used_in tags
used_before tags size free =
    let none = sum_by-le counts 0 (drop size tags) (All-from_get_or (λ tag. counts tag ≤ 0) (drop size tags) 0 (λ i within.
    let at : slice_index (drop size tags) i ≡ 0 = get_or-drop size tags i 0 ∙ free (size + i) (omega arith) in
    let zero : counts (slice_index (drop size tags) i) ≡ 0 = ap (λ b. cond (not b) 1 0) (eq-eqb (slice_index (drop size tags) i) 0 at) in
    omega (arith, zero))) in
    omega (arith, sum_by-take-drop counts tags size, none)
