-- The bits of a set of ranks.
use Rattle.std.proofs.Common.{◌≡◌, ℕ, ◌+◌, ◌-◌, ◌*◌, ◌/◌, ◌%◌, ◌^◌, ◌<◌, ◌≤◌, ◌⊎◌, ◌↔◌, Some, bit_and, bit_or, max, min, inl, inr, sym, ◌∙◌, ap, arith, w64}
use Rattle.std.specs.Int.{bit_at, bit_not, trailing_zeros}
use Rattle.std.proofs.lemmas.Bool.{cases_eq, cases_lt}
use Rattle.std.proofs.lemmas.Nat.{shr-shr, shr_le}
use Rattle.std.proofs.lemmas.Nat.Bits.{bit_at-zero, bit_at-lt, bit_at_or, bit_at_and, bit_at_set_same, bit_at_set_other, bit_at_clear_same, bit_at_clear_other, bit_at-trailing_zeros}
use Rattle.mask_table.specs.RankSets.{AreRanks, HasRank, IsGreatestBelow}

-- ---- one rank more, or less
module _ (bits place rank : ℕ) (at : place + rank ≡ 33) where
  abbrev more : ℕ
  more = bit_or bits (1 * 2 ^ place % 2 ^ 64)

  abbrev less : ℕ
  less = bit_and bits (bit_not w64 (1 * 2 ^ place % 2 ^ 64))

  own_place : (r : ℕ) → r ≡ rank → 33 - r ≡ place
  own_place r same = omega arith

  other_place : (r : ℕ) → r ≤ 33 → (r ≡ rank → ⊥) → 33 - r ≡ place → ⊥
  other_place r fits other same = other (omega arith)

  pub with_rank : (r : ℕ) → HasRank more r ↔ ((r ≡ rank) ⊎ HasRank bits r)
  with_rank r = (
    (λ has. elim (cases_eq r rank) [
      | inl same ↦ inl same
      | inr other ↦ inr (has.0, sym (bit_at_set_other w64 bits place (omega arith) (33 - r) (other_place r has.0 other)) ∙ has.1)
    ]),
    λ has. elim (cases_eq r rank) [
      | inl same ↦ (omega arith, ap (bit_at more) (own_place r same) ∙ bit_at_set_same w64 bits place (omega arith))
      | inr other ↦ elim has [
        | inl same ↦ absurd (other same)
        | inr had ↦ (had.0, bit_at_set_other w64 bits place (omega arith) (33 - r) (other_place r had.0 other) ∙ had.1)
      ]
    ],
  )

  pub with_ranks : AreRanks bits → AreRanks more
  with_ranks are i past = bit_at_set_other w64 bits place (omega arith) i (λ same. omega arith) ∙ are i past

  pub without_ranks : AreRanks bits → AreRanks less
  without_ranks are i past = omega (arith, bit_at_and bits (bit_not w64 (1 * 2 ^ place % 2 ^ 64)) i, are i past)

  pub without_rank : (r : ℕ) → HasRank less r ↔ ((r ≡ rank → ⊥) × HasRank bits r)
  without_rank r = (
    (λ has. elim (cases_eq r rank) [
      | inl same ↦ absurd (omega (arith, has.1, ap (bit_at less) (own_place r same) ∙ bit_at_clear_same w64 bits place (omega arith)))
      | inr other ↦ (other, (has.0, sym (bit_at_clear_other w64 bits place (omega arith) (33 - r) (omega arith) (other_place r has.0 other)) ∙ has.1))
    ]),
    λ has. (has.1.0, bit_at_clear_other w64 bits place (omega arith) (33 - r) (omega arith) (other_place r has.1.0 has.0) ∙ has.1.1),
  )

-- ---- two sets
module _ (one two : ℕ) where
  pub union_has : (r : ℕ) → HasRank (bit_or one two) r ↔ (HasRank one r ⊎ HasRank two r)
  union_has r = (
    (λ has. elim (cases_eq (bit_at one (33 - r)) 1) [
      | inl on ↦ inl (has.0, on)
      | inr off ↦ inr (has.0, omega (arith, has.1, bit_at_or one two (33 - r), bit_at-lt one (33 - r), bit_at-lt two (33 - r)))
    ]),
    λ has. elim has [
      | inl own ↦ (own.0, omega (arith, own.1, bit_at_or one two (33 - r), bit_at-lt one (33 - r), bit_at-lt two (33 - r)))
      | inr own ↦ (own.0, omega (arith, own.1, bit_at_or one two (33 - r), bit_at-lt one (33 - r), bit_at-lt two (33 - r)))
    ],
  )

  pub intersection_has : (r : ℕ) → HasRank (bit_and one two) r ↔ (HasRank one r × HasRank two r)
  intersection_has r = (
    (λ has.
        let both = bit_at_and one two (33 - r) in (
          (has.0, omega (arith, has.1, both, bit_at-lt one (33 - r), bit_at-lt two (33 - r))),
          (has.0, omega (arith, has.1, both, bit_at-lt one (33 - r), bit_at-lt two (33 - r))),
        )),
    λ has. (has.0.0, omega (arith, has.0.1, has.1.1, bit_at_and one two (33 - r))),
  )

  pub union_ranks : AreRanks one → AreRanks two → AreRanks (bit_or one two)
  union_ranks of_one of_two i past = omega (arith, bit_at_or one two i, of_one i past, of_two i past)

  pub intersection_ranks : AreRanks one → AreRanks (bit_and one two)
  intersection_ranks of_one i past = omega (arith, bit_at_and one two i, of_one i past)

-- ---- the greatest rank below a number
-- a bit of what is left once the lowest are gone
bit_of_rest : (bits low i : ℕ) → bit_at (bits / 2 ^ low) i ≡ bit_at bits (low + i)
bit_of_rest bits low i = ap (λ n. n % 2) (shr-shr bits low i)

pub none_below : (bits number : ℕ) → number ≤ 34 → bits / 2 ^ (34 - number) ≡ 0 → (r : ℕ) → r < number → HasRank bits r → ⊥
none_below bits number fits none r below has =
    let i : ℕ = 33 - r - (34 - number) in
    let place : 33 - r ≡ 34 - number + i = omega arith in
    omega (arith, has.1, ap (bit_at bits) place ∙ sym (bit_of_rest bits (34 - number) i) ∙ ap (λ n. bit_at n i) none ∙ bit_at-zero i)

module _ (bits number : ℕ) (fits : number ≤ 34) (wide : bits < 2 ^ 64) (are : AreRanks bits) (some : 0 < bits / 2 ^ (34 - number)) where
  abbrev rest : ℕ
  rest = bits / 2 ^ (34 - number)

  abbrev lowest : ℕ
  lowest = trailing_zeros w64 rest

  lowest_is : (lowest < 64) × (bit_at rest lowest ≡ 1) × ((i : ℕ) → i < lowest → bit_at rest i ≡ 0)
  lowest_is = bit_at-trailing_zeros w64 rest some (omega (arith, shr_le bits (34 - number)))

  is_on : bit_at bits (34 - number + lowest) ≡ 1
  is_on = sym (bit_of_rest bits (34 - number) lowest) ∙ lowest_is.1

  pub is_within : lowest + 1 ≤ number
  is_within = elim (cases_lt (34 - number + lowest) 34) [
    | inl low ↦ omega arith
    | inr past ↦ omega (arith, is_on, are (34 - number + lowest) (omega arith))
  ]

  pub greatest_below : IsGreatestBelow number bits (Some (number - 1 - lowest))
  greatest_below =
      let place : 33 - (number - 1 - lowest) ≡ 34 - number + lowest = omega (arith, is_within) in (
        omega (arith, is_within),
        (omega arith, ap (bit_at bits) place ∙ is_on),
        λ r above below has.
            let i : ℕ = 33 - r - (34 - number) in
            let at : 33 - r ≡ 34 - number + i = omega arith in
            omega (arith, has.1, ap (bit_at bits) at ∙ sym (bit_of_rest bits (34 - number) i) ∙ lowest_is.2 i (omega (arith, is_within))),
      )
