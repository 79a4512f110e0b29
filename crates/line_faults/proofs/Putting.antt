-- A text that was put behind another, where that was put behind what was there.
use Rattle.std.proofs.Common.{◌≡◌, ◌∙◌, ◌++◌, ℕ, List, Result, OnOk, ap, subst, append_assoc}

pub put_last : {T E : Type 0} (r : Result T E) (t x y v : List ℕ) {u : List ℕ} → u ≡ t ++ x → OnOk r (v ≡ u ++ y) → OnOk r (v ≡ t ++ (x ++ y))
put_last r t x y v e h = subst (λ w. OnOk r (v ≡ w)) (ap (λ s. s ++ y) e ∙ append_assoc t x y) h
