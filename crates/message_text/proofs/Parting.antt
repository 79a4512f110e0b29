-- Where a text ends that others follow: texts of which each byte passes a test, before one that doesn't.
use Rattle.std.proofs.Common.{◌≡◌, ◌∙◌, ℕ, Bool, true, false, not, List, [], ◌∷◌, ◌++◌, length, get_or, drop, refl, sym, ap, arith}
use Rattle.std.specs.List.{list_all}
use Rattle.std.proofs.lemmas.Bool.{and_parts}

-- the text is empty, or its first byte doesn't pass
abbrev pub stops : (ℕ → Bool) → List ℕ → Bool
stops p [] = true
stops p (b ∷ bs) = not (p b)

pub differs : (b : Bool) → b ≡ true → not b ≡ true → ⊥
differs true h n = cc
differs false h n = cc

pub same_head : (k j : ℕ) (s t : List ℕ) → k ∷ s ≡ j ∷ t → k ≡ j
same_head k j s t e = ap (λ (l : List ℕ). get_or l 0 0) e

pub same_tail : (k j : ℕ) (s t : List ℕ) → k ∷ s ≡ j ∷ t → s ≡ t
same_tail k j s t e = ap (λ (l : List ℕ). drop 1 l) e

-- bytes that pass end where the first stands that doesn't
pub parted : (p : ℕ → Bool) (s t x y : List ℕ) → list_all p s ≡ true → list_all p t ≡ true
    → stops p x ≡ true → stops p y ≡ true → s ++ x ≡ t ++ y → (s ≡ t) × (x ≡ y)
parted p [] [] x y a b c d e = (refl, e)
parted p [] (k ∷ t) x y a b c d e =
    absurd (differs (p k) (and_parts _ _ b).0 (ap (λ (l : List ℕ). stops p l) (sym e) ∙ c))
parted p (k ∷ s) [] x y a b c d e =
    absurd (differs (p k) (and_parts _ _ a).0 (ap (λ (l : List ℕ). stops p l) e ∙ d))
parted p (k ∷ s) (j ∷ t) x y a b c d e =
    let rest = parted p s t x y (and_parts _ _ a).1 (and_parts _ _ b).1 c d (same_tail k j (s ++ x) (t ++ y) e) in
    (ap (λ (i : ℕ). i ∷ s) (same_head k j (s ++ x) (t ++ y) e) ∙ ap (λ (l : List ℕ). j ∷ l) rest.0, rest.1)

-- and texts of one length end together
pub parted_even : (s t x y : List ℕ) → length s ≡ length t → s ++ x ≡ t ++ y → (s ≡ t) × (x ≡ y)
parted_even [] [] x y h e = (refl, e)
parted_even [] (k ∷ t) x y h e = absurd (omega (arith, h))
parted_even (k ∷ s) [] x y h e = absurd (omega (arith, h))
parted_even (k ∷ s) (j ∷ t) x y h e =
    let rest = parted_even s t x y (omega (arith, h)) (same_tail k j (s ++ x) (t ++ y) e) in
    (ap (λ (i : ℕ). i ∷ s) (same_head k j (s ++ x) (t ++ y) e) ∙ ap (λ (l : List ℕ). j ∷ l) rest.0, rest.1)
