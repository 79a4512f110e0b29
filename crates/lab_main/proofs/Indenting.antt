-- Texts of several lines.
use Rattle.std.proofs.Common.{◌≡◌, ◌∙◌, ◌⊎◌, ◌≢◌, ◌==◌, ℕ, true, false, List, [], ◌∷◌, ◌++◌, length, refl, sym, ap, append_assoc, inl, inr, arith}
use Rattle.std.proofs.lemmas.Bool.{eqb-true}
use Rattle.std.specs.Prelude.{codes, flat_map}
use Rattle.event_file.specs.Lines.{has_newline, lines_of}
use Rattle.event_file.proofs.LineLemmas.{lines_of-last, lines_of-line}
use Rattle.lab_main.specs.Texts.{indented}

pub indented-nil : indented [] ≡ []
unfolding indented
indented-nil = refl

-- a line, and what stands behind it, which is nothing where it is the last
pub indented-line : (text line behind : List ℕ) → text ≢ [] → has_newline line ≡ false → (text ≡ line ++ 10 ∷ behind) ⊎ ((text ≡ line) × (behind ≡ []))
    → indented text ≡ codes "    " ++ line ++ codes "\n" ++ indented behind
unfolding indented
indented-line text line behind some none (inl parts) =
    let shown : List ℕ → List ℕ = λ l. codes "    " ++ l ++ codes "\n" in
    ap (λ t. flat_map shown (lines_of t)) parts ∙ ap (flat_map shown) (lines_of-line line behind none)
indented-line text [] behind some none (inr (is, empty)) = absurd (some is)
indented-line text (b ∷ bs) behind some none (inr (is, empty)) =
    let shown : List ℕ → List ℕ = λ l. codes "    " ++ l ++ codes "\n" in
    ap (λ t. flat_map shown (lines_of t)) is ∙ ap (flat_map shown) (lines_of-last b bs none)
    ∙ ap (λ t. (codes "    " ++ (b ∷ bs) ++ codes "\n") ++ flat_map shown (lines_of t)) (sym empty)

-- ---- pieces that were put one behind another

pub three : (t a b c : List ℕ) → ((t ++ a) ++ b) ++ c ≡ t ++ ((a ++ b) ++ c)
three t a b c = simp append_assoc refl

pub four : (t a b c d : List ℕ) → (((t ++ a) ++ b) ++ c) ++ d ≡ t ++ (((a ++ b) ++ c) ++ d)
four t a b c d = simp append_assoc refl

pub five : (t a b c d e : List ℕ) → ((((t ++ a) ++ b) ++ c) ++ d) ++ e ≡ t ++ ((((a ++ b) ++ c) ++ d) ++ e)
five t a b c d e = simp append_assoc refl

pub six : (t a b c d e f : List ℕ) → (((((t ++ a) ++ b) ++ c) ++ d) ++ e) ++ f ≡ t ++ (((((a ++ b) ++ c) ++ d) ++ e) ++ f)
six t a b c d e f = simp append_assoc refl

pub none_left : (xs : List ℕ) → (length xs == 0) ≡ true → xs ≡ []
none_left [] none = refl
none_left (x ∷ xs) none = absurd (omega (arith, eqb-true _ _ none))
