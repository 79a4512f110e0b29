-- The two sides of a list at a bit.
use Rattle.std.proofs.Common.{◌≡◌, ℕ, ◌+◌, ◌<◌, ◌≤◌, suc, true, false, cond, List, [], ◌∷◌, ◌++◌, length, take, drop, get_or, refl, ap, arith}
use Rattle.std.proofs.lemmas.List.{at_drop_more, at_drop_all}
use Rattle.tree_pictures.specs.Tree.{has_one, zeros_of, ones_of}
use Rattle.tree_pictures.specs.declared.pair.Pair.{Pair}

pub most : (b : ℕ) (ps : List Pair) → length (zeros_of b ps) ≤ length ps
most b [] = omega arith
most b (p ∷ ps) = elim (has_one b p) as (λ t. length (cond t [] (p ∷ zeros_of b ps)) ≤ suc (length ps))
    [ true ↦ omega arith | false ↦ omega (arith, most b ps) ]

pub take_zeros : (b : ℕ) (ps : List Pair) → take (length (zeros_of b ps)) ps ≡ zeros_of b ps
take_zeros b [] = refl
take_zeros b (p ∷ ps) = elim (has_one b p) as (λ t. take (length (cond t [] (p ∷ zeros_of b ps))) (p ∷ ps) ≡ cond t [] (p ∷ zeros_of b ps))
    [ true ↦ refl | false ↦ ap (λ s. p ∷ s) (take_zeros b ps) ]

pub drop_ones : (b : ℕ) (ps : List Pair) → drop (length (zeros_of b ps)) ps ≡ ones_of b ps
drop_ones b [] = refl
drop_ones b (p ∷ ps) = elim (has_one b p) as (λ t. drop (length (cond t [] (p ∷ zeros_of b ps))) (p ∷ ps) ≡ cond t (p ∷ ps) (ones_of b ps))
    [ true ↦ refl | false ↦ drop_ones b ps ]

-- both together are the list
pub both_sides : (b : ℕ) (ps : List Pair) → zeros_of b ps ++ ones_of b ps ≡ ps
both_sides b [] = refl
both_sides b (p ∷ ps) = elim (has_one b p) as (λ t. cond t [] (p ∷ zeros_of b ps) ++ cond t (p ∷ ps) (ones_of b ps) ≡ p ∷ ps)
    [ true ↦ refl | false ↦ ap (λ s. p ∷ s) (both_sides b ps) ]

-- how many zeros come from a place on
pub more : (b : ℕ) (ps : List Pair) (i : ℕ) (d : Pair) → i < length ps
    → length (zeros_of b (drop i ps)) ≡ cond (has_one b (get_or ps i d)) 0 (suc (length (zeros_of b (drop (i + 1) ps))))
more b ps i d h =
    let step : length (zeros_of b (drop i ps)) ≡ length (zeros_of b (get_or ps i d ∷ drop (i + 1) ps)) =
    at_drop_more (λ (s : List Pair). length (zeros_of b s)) ps i d h in
    rw step (
    elim (has_one b (get_or ps i d)) as (λ t. length (cond t [] (get_or ps i d ∷ zeros_of b (drop (i + 1) ps)))
    ≡ cond t 0 (suc (length (zeros_of b (drop (i + 1) ps))))) [ true ↦ refl | false ↦ refl ]
    )

pub no_more : (b : ℕ) (ps : List Pair) (i : ℕ) → length ps ≤ i → length (zeros_of b (drop i ps)) ≡ 0
no_more b ps i h = at_drop_all (λ (s : List Pair). length (zeros_of b s)) ps i h
