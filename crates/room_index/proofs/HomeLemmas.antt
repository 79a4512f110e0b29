-- The homes of a pair among twice as many buckets.
use Rattle.std.proofs.Common.{◌≡◌, ℕ, ◌+◌, ◌-◌, ◌*◌, ◌/◌, ◌%◌, ◌^◌, ◌<◌, ◌≤◌, ◌⊎◌, inl, inr, sym, ap, ◌∙◌, arith}
use Rattle.std.proofs.lemmas.Bool.{cases_eq}
use Rattle.std.proofs.Math.Nat.{mod-lt}
use Rattle.std.proofs.lemmas.Nat.{mod-pow-add, pow-add, pow_pos}
use Rattle.room_index.specs.Homes.{spread, first_home, second_home}
use Rattle.room_index.specs.Places.{IsHome}

-- one bit more makes twice as many
pub twice : (bits : ℕ) → 2 ^ (bits + 1) ≡ 2 * 2 ^ bits
twice bits = pow-add 2 bits 1 ∙ grind arith

-- one bit more leaves a number as it is, or adds as much as the bit is worth
one_more : (n bits : ℕ) → (n % 2 ^ (bits + 1) ≡ n % 2 ^ bits) ⊎ (n % 2 ^ (bits + 1) ≡ n % 2 ^ bits + 2 ^ bits)
one_more n bits =
    let said : n % 2 ^ (bits + 1) ≡ (n / 2 ^ bits % 2 ^ 1) * 2 ^ bits + n % 2 ^ bits = ap (λ k. n % 2 ^ k) (omega arith) ∙ mod-pow-add n 1 bits in
    elim (cases_eq (n / 2 ^ bits % 2 ^ 1) 0) [
      | inl zero ↦ inl (said ∙ ap (λ h. h * 2 ^ bits + n % 2 ^ bits) zero ∙ grind arith)
      | inr one ↦
          let is_one : n / 2 ^ bits % 2 ^ 1 ≡ 1 = omega arith in
          inr (said ∙ ap (λ h. h * 2 ^ bits + n % 2 ^ bits) is_one ∙ grind arith)
    ]

-- so a home stays, or is as many buckets further as there were
module _ (bits b n : ℕ) where
  parted_on : b ≡ n % 2 ^ bits → (b ≡ n % 2 ^ (bits + 1) → ⊥) → b + 2 ^ bits ≡ n % 2 ^ (bits + 1)
  parted_on was other = elim (one_more n bits) [
    | inl same ↦ absurd (other (was ∙ sym same))
    | inr more ↦ ap (λ k. k + 2 ^ bits) was ∙ sym more
  ]

  folded_down : b ≡ n % 2 ^ (bits + 1) → 2 ^ bits ≤ b → b - 2 ^ bits ≡ n % 2 ^ bits
  folded_down is high = elim (one_more n bits) [
    | inl same ↦ omega (arith, mod-lt n (pow_pos bits), is, same, high)
    | inr more ↦ omega (arith, is, more)
  ]

  stays_low : b ≡ n % 2 ^ (bits + 1) → b < 2 ^ bits → b ≡ n % 2 ^ bits
  stays_low is low = elim (one_more n bits) [
    | inl same ↦ is ∙ same
    | inr more ↦ omega (arith, is, more)
  ]

-- ---- of an entry in a place
module _ (bits n pair : ℕ) where
  pub parted_home : IsHome bits n pair → (n / 8 ≡ first_home (bits + 1) pair → ⊥) → (n / 8 ≡ second_home (bits + 1) pair → ⊥) → (far : ℕ) → far / 8 ≡ n / 8 + 2 ^ bits
      → IsHome (bits + 1) far pair
  parted_home home not_first not_second far at = elim home [
    | inl first ↦ inl (at ∙ parted_on bits (n / 8) (spread pair) first not_first)
    | inr second ↦ inr (at ∙ parted_on bits (n / 8) (spread pair / 2 ^ 24) second not_second)
  ]

  pub folded_home : IsHome (bits + 1) n pair → 2 ^ bits ≤ n / 8 → (near : ℕ) → near / 8 ≡ n / 8 - 2 ^ bits → IsHome bits near pair
  folded_home home high near at = elim home [
    | inl first ↦ inl (at ∙ folded_down bits (n / 8) (spread pair) first high)
    | inr second ↦ inr (at ∙ folded_down bits (n / 8) (spread pair / 2 ^ 24) second high)
  ]

  pub low_home : IsHome (bits + 1) n pair → n / 8 < 2 ^ bits → IsHome bits n pair
  low_home home low = elim home [
    | inl first ↦ inl (stays_low bits (n / 8) (spread pair) first low)
    | inr second ↦ inr (stays_low bits (n / 8) (spread pair / 2 ^ 24) second low)
  ]

  -- a home is one of the buckets
  pub home_within : IsHome bits n pair → n / 8 < 2 ^ bits
  home_within home = elim home [
    | inl first ↦ omega (arith, first, mod-lt (spread pair) (pow_pos bits))
    | inr second ↦ omega (arith, second, mod-lt (spread pair / 2 ^ 24) (pow_pos bits))
  ]
