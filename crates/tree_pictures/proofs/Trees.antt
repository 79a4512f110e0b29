-- The tree of a list, step by step, and its routes.
use Rattle.std.proofs.Common.{◌≡◌, ℕ, ◌+◌, ◌-◌, ◌<◌, ◌≤◌, ◌⊎◌, inl, inr, zero, suc, List, [], ◌∷◌, ◌++◌, length, take, drop, refl}
use Rattle.std.proofs.Common.{ap, sym, ◌∙◌, arith, length-append}
use Rattle.std.proofs.lemmas.List.{append-nil}
use Rattle.std.specs.Prelude.{find}
use Rattle.std.specs.List.{cons_option}
use Rattle.tree_pictures.specs.Tree.{Tree, leaf, fork, routes_of, has_rank, listed, zeros_of, ones_of, forked, tree_from}
use Rattle.tree_pictures.proofs.Splits.{both_sides}
use Rattle.tree_pictures.specs.declared.pair.Pair.{Pair}

-- the leaves of the tree of a list are the list
routes_forked : (b : ℕ) (next : List Pair → Tree) → ((ps : List Pair) → routes_of (next ps) ≡ ps) → (zs os : List Pair) → routes_of (forked b next zs os) ≡ zs ++ os
routes_forked b next same [] os = same os
routes_forked b next same (z ∷ zs) [] = rw (same (z ∷ zs), append-nil)
routes_forked b next same (z ∷ zs) (o ∷ os) = rw (same (z ∷ zs), same (o ∷ os))

pub routes_from : (n : ℕ) (ps : List Pair) → routes_of (tree_from n ps) ≡ ps
unfolding tree_from
routes_from zero ps = refl
routes_from (suc n) ps = routes_forked (31 - n) (tree_from n) (routes_from n) _ _ ∙ both_sides (31 - n) ps

pub leaf_from : (ps : List Pair) → tree_from 0 ps ≡ leaf ps
unfolding tree_from
leaf_from ps = refl

-- that of no route
pub empty_from : (n : ℕ) → tree_from n [] ≡ leaf []
unfolding tree_from
empty_from zero = refl
empty_from (suc n) = empty_from n

-- ---- where a list is cut
-- the list is cut before the first route that has a 1
pub record IsCut (left k : ℕ) (ps : List Pair) : Type 0 where
  pub some : 0 < left
  pub within : left ≤ 32
  pub zeros : take k ps ≡ zeros_of (32 - left) ps
  pub ones : drop k ps ≡ ones_of (32 - left) ps

all_zeros : (b : ℕ) (next : List Pair → Tree) (ps : List Pair) → forked b next ps [] ≡ next ps
all_zeros b next [] = refl
all_zeros b next (p ∷ ps) = refl

both : (b : ℕ) (next : List Pair → Tree) (zs os : List Pair) → 0 < length zs → 0 < length os → forked b next zs os ≡ fork b (next zs) (next os)
both b next [] os z o = absurd (omega (arith, z))
both b next (z ∷ zs) [] s o = absurd (omega (arith, o))
both b next (z ∷ zs) (o ∷ os) s t = refl

cut_tree : (n k : ℕ) (ps : List Pair) → IsCut (suc n) k ps → tree_from (suc n) ps ≡ forked (31 - n) (tree_from n) (take k ps) (drop k ps)
unfolding tree_from
cut_tree n k ps cut =
    let here : 32 - suc n ≡ 31 - n = omega arith in
    let zeros : take k ps ≡ zeros_of (31 - n) ps = cut.zeros ∙ ap (λ b. zeros_of b ps) here in
    let ones : drop k ps ≡ ones_of (31 - n) ps = cut.ones ∙ ap (λ b. ones_of b ps) here in
    rw (zeros, ones) refl

take_all : (k : ℕ) (ps : List Pair) → length ps ≤ k → (take k ps ≡ ps) × (drop k ps ≡ [])
take_all zero [] h = (refl, refl)
take_all zero (p ∷ ps) h = absurd (omega (arith, h))
take_all (suc k) [] h = (refl, refl)
take_all (suc k) (p ∷ ps) h = let rest = take_all k ps (omega (arith, h)) in (ap (λ s. p ∷ s) rest.0, rest.1)

uncut : (n k : ℕ) (ps : List Pair) → IsCut (suc n) k ps → (k ≡ 0) ⊎ (length ps ≤ k) → tree_from (suc n) ps ≡ tree_from n ps
uncut n k ps cut none = cut_tree n k ps cut ∙ elim none [
  | inl first ↦ rw first refl
  | inr all ↦ (let whole = take_all k ps all in rw (whole.0, whole.1) (all_zeros (31 - n) (tree_from n) ps))
]

-- the tree by the next bit, where one side has all
pub same_tree : (left k : ℕ) (ps : List Pair) → IsCut left k ps → (k ≡ 0) ⊎ (length ps ≤ k) → tree_from left ps ≡ tree_from (left - 1) ps
same_tree zero k ps cut none = absurd (omega (arith, cut.some))
same_tree (suc n) k ps cut none = uncut n k ps cut none ∙ ap (λ m. tree_from m ps) (omega arith)

dropped : (k : ℕ) (ps : List Pair) → k < length ps → 0 < length (drop k ps)
dropped zero ps less = omega (arith, less)
dropped (suc k) [] less = absurd (omega (arith, less))
dropped (suc k) (p ∷ ps) less = dropped k ps (omega (arith, less))

length_taken : (k : ℕ) (ps : List Pair) → 0 < k → k < length ps → (0 < length (take k ps)) × (0 < length (drop k ps))
length_taken zero ps some less = absurd (omega (arith, some))
length_taken (suc k) [] some less = absurd (omega (arith, less))
length_taken (suc k) (p ∷ ps) some less = (omega arith, dropped k ps (omega (arith, less)))

-- the bit node, where both have some
pub cut_fork : (left k : ℕ) (ps : List Pair) → IsCut left k ps → 0 < k → k < length ps
    → tree_from left ps ≡ fork (32 - left) (tree_from (left - 1) (take k ps)) (tree_from (left - 1) (drop k ps))
cut_fork zero k ps cut some less = absurd (omega (arith, cut.some))
cut_fork (suc n) k ps cut some less =
    let sides = length_taken k ps some less in
    let here : 31 - n ≡ 32 - suc n = omega arith in
    let next : n ≡ suc n - 1 = omega arith in
    cut_tree n k ps cut ∙ both (31 - n) (tree_from n) (take k ps) (drop k ps) sides.0 sides.1
    ∙ ap (λ b. fork b (tree_from n (take k ps)) (tree_from n (drop k ps))) here
    ∙ ap (λ m. fork (32 - suc n) (tree_from m (take k ps)) (tree_from m (drop k ps))) next

-- ---- the two, for trees that are given as such
pub leaf_at : (left : ℕ) (ps : List Pair) → left ≡ 0 → leaf ps ≡ tree_from left ps
leaf_at left ps is = sym (ap (λ n. tree_from n ps) is ∙ leaf_from ps)

pub fork_at : (left k : ℕ) (ps : List Pair) {zs os : List Pair} → IsCut left k ps → 0 < k → k < length ps → zs ≡ take k ps → os ≡ drop k ps
    → fork (32 - left) (tree_from (left - 1) zs) (tree_from (left - 1) os) ≡ tree_from left ps
fork_at left k ps cut some less zs_is os_is = rw (zs_is, os_is) (sym (cut_fork left k ps cut some less))

take_drop : (k : ℕ) (ps : List Pair) → take k ps ++ drop k ps ≡ ps
take_drop zero ps = refl
take_drop (suc k) [] = refl
take_drop (suc k) (p ∷ ps) = ap (λ s. p ∷ s) (take_drop k ps)

pub both_lengths : (k : ℕ) (ps : List Pair) {zs os : List Pair} → zs ≡ take k ps → os ≡ drop k ps → length zs + length os ≡ length ps
both_lengths k ps zs_is os_is = rw (zs_is, os_is) (omega (arith, length-append (take k ps) (drop k ps), ap (λ (s : List Pair). length s) (take_drop k ps)))

-- its routes are all
pub routes_cut : (n k : ℕ) (ps : List Pair) → routes_of (tree_from n (take k ps)) ++ routes_of (tree_from n (drop k ps)) ≡ ps
routes_cut n k ps = rw (routes_from n (take k ps), routes_from n (drop k ps)) (take_drop k ps)

-- ---- masks, one by one
pub listed_more : (low rank : ℕ) (ps : List Pair) → low < rank
    → listed low (rank - low) ps ≡ cons_option (find (has_rank (rank - 1)) ps) (listed low (rank - 1 - low) ps)
listed_more low rank ps h =
    let one : rank - low ≡ suc (rank - 1 - low) = omega (arith, h) in
    let here : low + (rank - 1 - low) ≡ rank - 1 = omega (arith, h) in
    ap (λ n. listed low n ps) one ∙ ap (λ r. cons_option (find (has_rank r) ps) (listed low (rank - 1 - low) ps)) here
