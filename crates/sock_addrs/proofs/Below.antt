-- A test that passes at each number below a bound, so that a fact on few numbers is proved by computing.
use Rattle.std.proofs.Common.{◌≡◌, ℕ, ◌<◌, Bool, true, false, cond, suc, zero, inl, inr, ◌∙◌, ap, refl, arith}
use Rattle.std.proofs.lemmas.Bool.{cases_eq}

-- the test passes at 0 to n - 1
unfoldable pub passes_below : ℕ → (ℕ → Bool) → Bool
passes_below zero test = true
passes_below (suc n) test = cond (test n) (passes_below n test) false

both : (a b : Bool) → cond a b false ≡ true → (a ≡ true) × (b ≡ true)
both true b h = (refl, h)
both false b h = cc

pub passes_at : (n : ℕ) (test : ℕ → Bool) (k : ℕ) → passes_below n test ≡ true → k < n → test k ≡ true
unfolding passes_below
passes_at zero test k h lt = absurd (omega arith)
passes_at (suc n) test k h lt =
    let here_and_below = both (test n) (passes_below n test) h in
    elim (cases_eq k n) [ inl e ↦ ap test e ∙ here_and_below.0 | inr ne ↦ passes_at n test k here_and_below.1 (omega arith) ]
