-- How many bits a mask has, by its number.
use Rattle.std.proofs.Common.{◌≡◌, ◌≢◌, ℕ, List, [], ◌∷◌, nat_lt, rules, ◌+◌, ◌<◌, ◌≤◌, ◌==◌, Bool, true, false, zero, suc, Option, Some, None, refl, ap, ◌∙◌, arith, if◌then◌else◌, inl, inr}
use Rattle.std.specs.Int.{w32, leading_ones}
use Rattle.std.specs.Int.Count.{count_leading_zeros}
use Rattle.std.specs.List.{find, range_with_len}
use Rattle.std.specs.Option.{MatchOption}
use Rattle.std.proofs.lemmas.Bool.{cases_eq}
use Rattle.std.proofs.lemmas.Bool.Decides.{nat_tests}
use Rattle.sock_addrs.proofs.Below.{passes_below, passes_at}
use Rattle.sock_addrs.specs.Reading.{ComputedIsRead, ReadsMask, is_short, length_byte, mask_unless, number_of_mask, prefix_of, read_mask_of}
use Rattle.sock_addrs.specs.Rules.{first_fault, rule}
use Rattle.sock_addrs.specs.Sockaddrs.{mask_number}
use Rattle.sock_addrs.specs.declared.bad_addr.BadAddr.TheVariants as bad

changed : {X : Type 0} (o : Option X) (P P' : Type 0) (Q Q' : X → Type 0) → (P → P') → ((x : X) → Q x → Q' x) → MatchOption o P Q → MatchOption o P' Q'
changed None P P' Q Q' f g h = f h
changed (Some x) P P' Q Q' f g h = g x h

-- the first number of a range that passes, or none of them does
found_in_range : (p : ℕ → Bool) (a n : ℕ)
    → MatchOption (find p (range_with_len a n)) ((k : ℕ) → a ≤ k → k < a + n → p k ≡ false) (λ k. (a ≤ k) × (k < a + n) × (p k ≡ true))
found_in_range p a zero = λ k low high. absurd (omega arith)
found_in_range p a (suc n) =
    elim (p a) as (λ b. p a ≡ b → MatchOption (if b then Some a else find p (range_with_len (a + 1) n)) ((k : ℕ) → a ≤ k → k < a + suc n → p k ≡ false) (λ k. (a ≤ k) × (k < a + suc n) × (p k ≡ true))) [
      | true ↦ λ e. (omega arith, omega arith, e)
      | false ↦ λ e. changed (find p (range_with_len (a + 1) n)) _ _ (λ k. (a + 1 ≤ k) × (k < a + 1 + n) × (p k ≡ true)) (λ k. (a ≤ k) × (k < a + suc n) × (p k ≡ true))
          (λ none k low high. elim (cases_eq k a) [ inl same ↦ ap p same ∙ e | inr apart ↦ none k (omega arith) (omega arith) ])
          (λ k h. (omega (arith, h.0), omega (arith, h.1), h.2))
          (found_in_range p (a + 1) n)
    ] refl

-- the bits of a mask's number, or it is no mask's
pub prefix_of-is : (n : ℕ) → MatchOption (prefix_of n) ((p : ℕ) → p ≤ 32 → n ≢ mask_number p) (λ p. (p ≤ 32) × (n ≡ mask_number p))
prefix_of-is n =
    changed (prefix_of n) _ _ (λ k. (0 ≤ k) × (k < 0 + 33) × ((mask_number k == n) ≡ true)) (λ p. (p ≤ 32) × (n ≡ mask_number p))
    (λ none p fits e. let no : (mask_number p == n) ≡ false = none p (omega arith) (omega arith) in grind (arith, nat_tests))
    (λ p h. let yes : (mask_number p == n) ≡ true = h.2 in (omega (arith, h.1), grind (arith, nat_tests)))
    (found_in_range (λ p. mask_number p == n) 0 33)

all_ones_counted : passes_below 33 (λ p. leading_ones w32 (mask_number p) == p) ≡ true
unfolding passes_below count_leading_zeros
all_ones_counted = refl

-- a mask's number has as many ones in front as the mask has bits
pub leading_ones-mask : (p : ℕ) → p ≤ 32 → leading_ones w32 (mask_number p) ≡ p
leading_ones-mask p fits =
    let yes : (leading_ones w32 (mask_number p) == p) ≡ true = passes_at 33 (λ p. leading_ones w32 (mask_number p) == p) p all_ones_counted (omega arith) in
    grind (arith, nat_tests)

mask_reads : (sockaddr : List ℕ) (bits : Option ℕ) → MatchOption bits ((p : ℕ) → p ≤ 32 → number_of_mask sockaddr ≢ mask_number p) (λ p. (p ≤ 32) × (number_of_mask sockaddr ≡ mask_number p))
    → ReadsMask sockaddr (mask_unless (first_fault (rule (is_short sockaddr) bad.Short ∷ rule (nat_lt 16 (length_byte sockaddr)) bad.Length ∷ [])) bits)
mask_reads sockaddr None none = search rules
mask_reads sockaddr (Some p) found = search rules

-- what is computed of a mask is how it is read
pub mask_computed : ComputedIsRead ReadsMask read_mask_of
mask_computed sockaddr = mask_reads sockaddr (prefix_of (number_of_mask sockaddr)) (prefix_of-is (number_of_mask sockaddr))
