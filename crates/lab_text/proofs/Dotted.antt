-- The parts of an address, put one behind another.
use Rattle.std.proofs.Common.{◌≡◌, ℕ, List, [], ◌∷◌, ◌++◌, append_assoc, refl}

pub dotted : (o a b c d : List ℕ) → ((((((o ++ a) ++ 46 ∷ []) ++ b) ++ 46 ∷ []) ++ c) ++ 46 ∷ []) ++ d ≡ o ++ (a ++ 46 ∷ (b ++ 46 ∷ (c ++ 46 ∷ d)))
dotted o a b c d = simp append_assoc refl
