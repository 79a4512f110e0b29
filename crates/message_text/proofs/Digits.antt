-- How many digits a decimal has.
use Rattle.std.proofs.Common.{◌≡◌, ◌∙◌, ℕ, zero, suc, ◌+◌, ◌*◌, ◌/◌, ◌<◌, ◌≤◌, ◌^◌, ◌%◌, [], ◌∷◌, length, ap, arith, decimal, pow-suc, length-append}
use Rattle.std.proofs.Math.Nat.{one-le-pow}
use Rattle.std.proofs.lemmas.Fmt.{decimal_digit, decimal_step}

-- as many as the power of ten behind the number
pub digits_counted : (k n : ℕ) → 10 ^ k ≤ n → n < 10 ^ (k + 1) → n < 2 ^ 32 → length (decimal n) ≡ k + 1
digits_counted zero n least most small = ap length (decimal_digit n (omega (arith, most)))
digits_counted (suc k) n least most small =
    let low : 10 ^ suc k ≡ 10 ^ k * 10 = pow-suc 10 k in
    let high : 10 ^ (suc k + 1) ≡ 10 ^ (k + 1) * 10 = ap (λ (i : ℕ). 10 ^ i) (omega arith) ∙ pow-suc 10 (k + 1) in
    let one : 1 ≤ 10 ^ k = one-le-pow k 10 (omega arith) in
    let before = digits_counted k (n / 10) (omega (arith, least, low)) (omega (arith, most, high)) (omega (arith, small)) in
    ap length (decimal_step n (omega (arith, least, low, one)) (omega (arith, small)))
    ∙ length-append (decimal (n / 10)) ((48 + n % 10) ∷ []) ∙ omega (arith, before)
