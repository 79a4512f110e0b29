-- Flags that are bits of one number.
--     turned_twice             turned twice, they are as before
--     has-turned               the lowest flag has turned
--     low_stays, high_stays    flags below a bit stay where those from it on are other ones, and the other way about
use Rattle.std.proofs.Common.{◌≡◌, ℕ, zero, suc, ◌+◌, ◌*◌, ◌/◌, ◌%◌, ◌^◌, ◌<◌, ◌≤◌, ◌==◌, refl, sym, ap, ◌∙◌, arith}
use Rattle.std.proofs.lemmas.Nat.{pow_pos}
use Rattle.std.proofs.Math.Nat.{mod-lt}
use Rattle.std.proofs.lemmas.Nat.Bits.{bit_at_xor, bit_at-lt, same_from_bits, bit_at_cat_low, bit_at_cat_high}
use Rattle.std.specs.Int.{bit_at}
use Rattle.std.specs.Int.Bits.{bit_xor}
use mathlib.Core.Bool.{not}
use Rattle.radix_nodes.specs.declared.flags.Flags.{Flags}
use Rattle.radix_nodes.specs.Flags.{has, turned}

twice : (x y : ℕ) → x < 2 → ((x + y) % 2 + y) % 2 ≡ x
twice x y h = omega arith

xor_twice : (a b : ℕ) → bit_xor (bit_xor a b) b ≡ a
xor_twice a b =
    same_from_bits _ _ (λ i. bit_at_xor (bit_xor a b) b i ∙ ap (λ (n : ℕ). (n + bit_at b i) % 2) (bit_at_xor a b i)
    ∙ twice (bit_at a i) (bit_at b i) (bit_at-lt a i))

pub turned_twice : (f : Flags) → turned (turned f) ≡ f
turned_twice f = ap (λ (n : ℕ). record { bits = n }) (xor_twice f.bits 1)

other : (x : ℕ) → x < 2 → ((x + 1) % 2 == 1) ≡ not (x == 1)
other zero h = refl
other (suc zero) h = refl
other (suc (suc x)) h = absurd (omega arith)

pub has-turned : (f : Flags) → has (turned f) 0 ≡ not (has f 0)
unfolding has
has-turned f = ap (λ (n : ℕ). n == 1) (bit_at_xor f.bits 1 0) ∙ other (bit_at f.bits 0) (bit_at-lt f.bits 0)

parts : (n d : ℕ) → 0 < d → n / d * d + n % d ≡ n
parts n d h = omega arith

-- a number is its bits from j on and those below
split : (n j k : ℕ) → bit_at (n / 2 ^ j * 2 ^ j + n % 2 ^ j) k ≡ bit_at n k
split n j k = ap (λ (m : ℕ). bit_at m k) (parts n (2 ^ j) (pow_pos j))

pub low_stays : (high n j k : ℕ) → k < j → bit_at (high * 2 ^ j + n % 2 ^ j) k ≡ bit_at n k
low_stays high n j k h = bit_at_cat_low high j (n % 2 ^ j) k h ∙ sym (bit_at_cat_low (n / 2 ^ j) j (n % 2 ^ j) k h) ∙ split n j k

pub high_stays : (low n j k : ℕ) → low < 2 ^ j → j ≤ k → bit_at (n / 2 ^ j * 2 ^ j + low) k ≡ bit_at n k
high_stays low n j k fits h =
    bit_at_cat_high (n / 2 ^ j) j low k fits h ∙ sym (bit_at_cat_high (n / 2 ^ j) j (n % 2 ^ j) k (mod-lt n (pow_pos j)) h) ∙ split n j k
