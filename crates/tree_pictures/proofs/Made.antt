-- What is made of a list in table order is a tree.
use Rattle.std.proofs.Common.{◌≡◌, ℕ, ◌+◌, ◌-◌, ◌*◌, ◌<◌, ◌≤◌, ◌⊎◌, zero, suc, true, false, cond, List, [], ◌∷◌, ◌++◌, refl}
use Rattle.std.proofs.Common.{inl, inr, sym, ◌∙◌, subst, arith}
use Rattle.std.proofs.Math.Pow.{shr_mono}
use Rattle.std.proofs.lemmas.Bool.{eqb-true, eqb-false}
use Rattle.std.specs.List.{AllByRecursion}
use Rattle.mask_table.specs.Agreeing.{bit, front}
use Rattle.mask_table.proofs.Agreeing.{front_suc}
use Rattle.tree_pictures.specs.Tree.{Tree, leaf, fork, routes_of, has_one, zeros_of, ones_of, forked, tree_from, IsChain, IsLeaf, IsTree}
use Rattle.tree_pictures.proofs.Lists.{all_both, all_left, all_right}
use Rattle.tree_pictures.proofs.Splits.{both_sides}
use Rattle.tree_pictures.proofs.Trees.{routes_from}
use Rattle.tree_pictures.specs.declared.pair.Pair.{Pair}

-- ---- table order
abbrev pub IsBefore : Pair → Pair → Type 0
IsBefore p q = (p.key < q.key) ⊎ ((p.key ≡ q.key) × (q.rank < p.rank))

abbrev pub AreInOrder : List Pair → Type 0
AreInOrder [] = Unit {0}
AreInOrder (p ∷ ps) = AllByRecursion (IsBefore p) ps × AreInOrder ps

order_left : (ps qs : List Pair) → AreInOrder (ps ++ qs) → AreInOrder ps
order_left [] qs h = tt
order_left (p ∷ ps) qs h = (all_left (IsBefore p) ps qs h.0, order_left ps qs h.1)

order_right : (ps qs : List Pair) → AreInOrder (ps ++ qs) → AreInOrder qs
order_right [] qs h = h
order_right (p ∷ ps) qs h = order_right ps qs h.1

abbrev pub IsRanked : Pair → Type 0
IsRanked p = p.rank < 34

-- the first bits of a key, so many of them, have this value
abbrev pub HasFront : ℕ → ℕ → Pair → Type 0
HasFront b f p = front b p.key ≡ f

abbrev HasBit : ℕ → ℕ → Pair → Type 0
HasBit b v p = bit b p.key ≡ v

-- what a tree wants of its routes
pub record AreGood (b f : ℕ) (ps : List Pair) : Type 0 where
  pub order : AreInOrder ps
  pub ranked : AllByRecursion IsRanked ps
  pub same : AllByRecursion (HasFront b f) ps

-- ---- the sides
bit_zero : (b : ℕ) (p : Pair) → has_one b p ≡ false → HasBit b 0 p
bit_zero b p h = let ne = eqb-false (bit b p.key) 1 h in omega (arith, ne)

have_zeros : (b : ℕ) (ps : List Pair) → AllByRecursion (HasBit b 0) (zeros_of b ps)
have_zeros b [] = tt
have_zeros b (p ∷ ps) = elim (has_one b p) as (λ t. has_one b p ≡ t → AllByRecursion (HasBit b 0) (cond t [] (p ∷ zeros_of b ps)))
    [ true ↦ λ e. tt | false ↦ λ e. (bit_zero b p e, have_zeros b ps) ] refl

-- of keys in order that are the same before a bit, those behind a 1 have a 1
one_behind : (b f : ℕ) (p q : Pair) → b ≤ 31 → HasBit b 1 p → HasFront b f p → HasFront b f q → IsBefore p q → HasBit b 1 q
one_behind b f p q within one fp fq before =
    let le : p.key ≤ q.key = elim before [ inl lt ↦ omega arith | inr same ↦ omega (arith, same) ] in
    let fronts : front (suc b) p.key ≤ front (suc b) q.key = shr_mono (32 - suc b) le in
    let sp = front_suc b p.key (omega arith) in
    let sq = front_suc b q.key (omega arith) in
    omega (arith, fronts, sp, sq)

have_ones : (b f : ℕ) (ps : List Pair) → b ≤ 31 → AreInOrder ps → AllByRecursion (HasFront b f) ps → AllByRecursion (HasBit b 1) (ones_of b ps)
have_ones b f [] within order same = tt
have_ones b f (p ∷ ps) within order same =
    elim (has_one b p) as (λ t. has_one b p ≡ t → AllByRecursion (HasBit b 1) (cond t (p ∷ ps) (ones_of b ps))) [
      | true ↦ λ e. (
          let one : HasBit b 1 p = eqb-true (bit b p.key) 1 e in
          (one, all_both (IsBefore p) (HasFront b f) (HasBit b 1) (λ q before fq. one_behind b f p q within one same.0 fq before) ps order.0 same.1)
          )
      | false ↦ λ e. have_ones b f ps within order.1 same.1
    ] refl

next_front : (b f v : ℕ) (p : Pair) → b ≤ 31 → HasFront b f p → HasBit b v p → HasFront (suc b) (2 * f + v) p
next_front b f v p within same has = omega (arith, front_suc b p.key (omega arith), same, has)

-- ---- leaves
chain_of : (key top : ℕ) (ps : List Pair) → AllByRecursion (λ q. (q.key ≡ key) × (q.rank < top)) ps → AreInOrder ps → IsChain key top ps
chain_of key top [] all order = tt
chain_of key top (p ∷ ps) all order = (
  all.0.0,
  all.0.1,
  chain_of key p.rank ps (
      all_both (IsBefore p) (λ q. (q.key ≡ key) × (q.rank < top)) (λ q. (q.key ≡ key) × (q.rank < p.rank)) (λ q before has. (
        has.0,
        elim before [
          | inl lt ↦ absurd (omega (arith, has.0, all.0.0, lt))
          | inr same ↦ same.1
        ],
      )) ps order.0 all.1
      ) order.1,
)

whole_key : (p : Pair) → front 32 p.key ≡ p.key
whole_key p = omega arith

pub leaf_of : (f : ℕ) (p : Pair) (ps : List Pair) → AreGood 32 f (p ∷ ps) → IsLeaf (p ∷ ps)
leaf_of f p ps good = chain_of p.key 34 (p ∷ ps) (
    all_both (HasFront 32 f) IsRanked (λ q. (q.key ≡ p.key) × (q.rank < 34))
    (λ q same ranked. (sym (whole_key q) ∙ same ∙ sym good.same.0 ∙ whole_key p, ranked)) (p ∷ ps) good.same good.ranked
    ) good.order

-- ---- the tree
abbrev Makes : ℕ → ℕ → (List Pair → Tree) → Type 0
Makes low b next = (f : ℕ) (p : Pair) (ps : List Pair) → AreGood b f (p ∷ ps) → IsTree low (next (p ∷ ps))

good_left : (b f v : ℕ) (zs os : List Pair) → b ≤ 31 → AreGood b f (zs ++ os) → AllByRecursion (HasBit b v) zs → AreGood (suc b) (2 * f + v) zs
good_left b f v zs os within good has = record {
  order = order_left zs os good.order;
  ranked = all_left IsRanked zs os good.ranked;
  same = all_both (HasFront b f) (HasBit b v) (HasFront (suc b) (2 * f + v)) (λ q same h. next_front b f v q within same h) zs
      (all_left (HasFront b f) zs os good.same) has;
}

good_right : (b f v : ℕ) (zs os : List Pair) → b ≤ 31 → AreGood b f (zs ++ os) → AllByRecursion (HasBit b v) os → AreGood (suc b) (2 * f + v) os
good_right b f v zs os within good has = record {
  order = order_right zs os good.order;
  ranked = all_right IsRanked zs os good.ranked;
  same = all_both (HasFront b f) (HasBit b v) (HasFront (suc b) (2 * f + v)) (λ q same h. next_front b f v q within same h) os
      (all_right (HasFront b f) zs os good.same) has;
}

-- what is beneath no bit node is a tree there, too
pub lower : (low high : ℕ) (t : Tree) → low ≤ high → IsTree high t → IsTree low t
lower low high (leaf ps) le h = h
lower low high (fork b left right) le h = (
  record {
    rises = omega (arith, h.0.rises);
    within = h.0.within;
    before = h.0.before;
    agree = h.0.agree;
    zeros = h.0.zeros;
    ones = h.0.ones;
  },
  h.1,
  h.2,
)

forked_is : (b f : ℕ) (next : List Pair → Tree) → b ≤ 31 → ((ps : List Pair) → routes_of (next ps) ≡ ps) → Makes (suc b) (suc b) next
    → (zs os : List Pair) → AreGood b f (zs ++ os) → AllByRecursion (HasBit b 0) zs → AllByRecursion (HasBit b 1) os → (zs ++ os ≡ [] → ⊥)
    → IsTree b (forked b next zs os)
forked_is b f next within same makes [] [] good zeros ones some = absurd (some refl)
forked_is b f next within same makes [] (o ∷ os) good zeros ones some =
    lower b (suc b) (next (o ∷ os)) (omega arith) (makes (2 * f + 1) o os (good_right b f 1 [] (o ∷ os) within good ones))
forked_is b f next within same makes (z ∷ zs) [] good zeros ones some =
    lower b (suc b) (next (z ∷ zs)) (omega arith) (makes (2 * f + 0) z zs (good_left b f 0 (z ∷ zs) [] within good zeros))
forked_is b f next within same makes (z ∷ zs) (o ∷ os) good zeros ones some = (
  record {
    rises = omega arith;
    within = within;
    before = f;
    agree = rw (same (z ∷ zs), same (o ∷ os)) good.same;
    zeros = rw (same (z ∷ zs)) zeros;
    ones = rw (same (o ∷ os)) ones;
  },
  subst (λ low. IsTree low (next (z ∷ zs))) (omega arith) (makes (2 * f + 0) z zs (good_left b f 0 (z ∷ zs) (o ∷ os) within good zeros)),
  subst (λ low. IsTree low (next (o ∷ os))) (omega arith) (makes (2 * f + 1) o os (good_right b f 1 (z ∷ zs) (o ∷ os) within good ones)),
)

pub tree_from_is : (n : ℕ) → n ≤ 32 → Makes (32 - n) (32 - n) (tree_from n)
unfolding tree_from
tree_from_is zero le f p ps good = leaf_of f p ps good
tree_from_is (suc n) le f p ps good =
    let here : 32 - suc n ≡ 31 - n = omega arith in
    let next : 32 - n ≡ suc (31 - n) = omega arith in
    let makes : Makes (suc (31 - n)) (suc (31 - n)) (tree_from n) =
    subst (λ b. Makes b b (tree_from n)) next (tree_from_is n (omega arith)) in
    let same = both_sides (31 - n) (p ∷ ps) in
    let all : AreGood (31 - n) f (p ∷ ps) = subst (λ b. AreGood b f (p ∷ ps)) here good in
    subst (λ b. IsTree b (forked (31 - n) (tree_from n) (zeros_of (31 - n) (p ∷ ps)) (ones_of (31 - n) (p ∷ ps)))) (sym here) (
    forked_is (31 - n) f (tree_from n) (omega arith) (routes_from n) makes (zeros_of (31 - n) (p ∷ ps)) (ones_of (31 - n) (p ∷ ps))
    (subst (AreGood (31 - n) f) (sym same) all) (have_zeros (31 - n) (p ∷ ps)) (have_ones (31 - n) f (p ∷ ps) (omega arith) all.order all.same)
    (λ none. (let bad : p ∷ ps ≡ [] = sym same ∙ none in cc))
    )
