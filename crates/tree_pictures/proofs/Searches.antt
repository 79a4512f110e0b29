-- A search finds the route of greatest rank among those that cover the address.
use Rattle.std.proofs.Common.{◌≡◌, ℕ, ◌+◌, ◌-◌, ◌<◌, ◌≤◌, ◌==◌, zero, suc, true, false, cond, List, [], ◌∷◌, ◌++◌, Option, Some, None, refl}
use Rattle.std.proofs.Common.{inl, inr, sym, ◌∙◌, subst, arith}
use Rattle.std.proofs.lemmas.Bool.{cases_eq, cases_lt, eq-eqb, eqb-true, eqb-false}
use Rattle.std.specs.Prelude.{find}
use Rattle.std.specs.List.{AllByRecursion, cons_option}
use Rattle.std.specs.Option.{option_or}
use Rattle.mask_table.specs.Agreeing.{bit, front, agrees, masked}
use Rattle.mask_table.proofs.Agreeing.{bit_of_front, masked_bits, agrees_at_smaller_ranks}
use Rattle.tree_pictures.specs.Tree.{Tree, leaf, fork, routes_of, has_rank, listed, masks_of, covers, found, IsMasked, IsChain, IsFork, IsTree}
use Rattle.tree_pictures.proofs.Lists.{Among, among_left, among_right, found_among, none_found, all_among, all_weaker, all_both, all_append, all_left}
use Rattle.tree_pictures.proofs.Lists.{all_right}
use Rattle.tree_pictures.specs.declared.pair.Pair.{Pair}

-- where it covers the address, its rank is below a top
abbrev pub IsBelow : ℕ → ℕ → Pair → Type 0
IsBelow a top p = covers a p ≡ true → p.rank < top

-- the route of greatest rank among these that cover the address; or none, where those that do have a rank below low
abbrev pub IsFound : ℕ → ℕ → List Pair → Option Pair → Type 0
IsFound a low ps None = AllByRecursion (IsBelow a low) ps
IsFound a low ps (Some p) = Among p ps × (covers a p ≡ true) × AllByRecursion (IsBelow a (p.rank + 1)) ps

-- ---- along a chain
behind : (a low : ℕ) (p : Pair) (ps : List Pair) (o : Option Pair) → covers a p ≡ false → IsFound a low ps o → IsFound a low (p ∷ ps) o
behind a low p ps None e h = ((λ c. cc), h)
behind a low p ps (Some x) e h = (inr h.0, h.1, ((λ c. cc), h.2))

chain_below : (a key top limit : ℕ) (ps : List Pair) → IsChain key top ps → top ≤ limit → AllByRecursion (IsBelow a limit) ps
chain_below a key top limit [] h k = tt
chain_below a key top limit (p ∷ ps) h k = ((λ c. omega (arith, h.1)), chain_below a key p.rank limit ps h.2 (omega (arith, h.1)))

in_chain : (a low key top : ℕ) (ps : List Pair) → IsChain key top ps → IsFound a low ps (find (covers a) ps)
in_chain a low key top [] h = tt
in_chain a low key top (p ∷ ps) h =
    elim (covers a p) as (λ t. covers a p ≡ t → IsFound a low (p ∷ ps) (cond t (Some p) (find (covers a) ps))) [
      | true ↦ λ e. (inl refl, e, ((λ c. omega arith), chain_below a key p.rank (p.rank + 1) ps h.2 (omega arith)))
      | false ↦ λ e. behind a low p ps (find (covers a) ps) e (in_chain a low key p.rank ps h.2)
    ] refl

-- ---- along listed masks
-- routes of one rank whose keys are the same up to a bit at or past it cover the same addresses
cover_same : (a f b rank : ℕ) (x q : Pair) → front b x.key ≡ f → front b q.key ≡ f → rank ≤ b → x.rank ≡ rank → q.rank ≡ rank → covers a q ≡ true
    → covers a x ≡ true
cover_same a f b rank x q fx fq past rx rq c =
    let same : front rank x.key ≡ front rank q.key =
    eqb-true _ _ (agrees_at_smaller_ranks rank b x.key q.key past (eq-eqb _ _ (fx ∙ sym fq))) in
    let there : front rank q.key ≡ front rank a = subst (λ r. front r q.key ≡ front r a) rq (eqb-true _ _ c) in
    subst (λ r. agrees r x.key a ≡ true) (sym rx) (eq-eqb _ _ (same ∙ there))

in_list : (a f b low n : ℕ) (ps : List Pair) → AllByRecursion (λ p. front b p.key ≡ f) ps → AllByRecursion (IsBelow a (low + n)) ps → low + n ≤ b + 1
    → IsFound a low ps (find (covers a) (listed low n ps))
in_list a f b low zero ps same all past = all_weaker (IsBelow a (low + 0)) (IsBelow a low) (λ q h c. omega (arith, h c)) ps all
in_list a f b low (suc n) ps same all past =
    elim (find (has_rank (low + n)) ps) as (λ o. find (has_rank (low + n)) ps ≡ o
    → IsFound a low ps (find (covers a) (cons_option o (listed low n ps)))) [
      | None ↦ λ none. in_list a f b low n ps same (
          all_both (IsBelow a (low + suc n)) (λ q. has_rank (low + n) q ≡ false) (IsBelow a (low + n))
          (λ q h ne c. omega (arith, h c, eqb-false q.rank (low + n) ne)) ps all (none_found (has_rank (low + n)) ps none)
          ) (omega arith)
      | Some x ↦ λ some. (
          let there = found_among (has_rank (low + n)) ps x some in
          let rank : x.rank ≡ low + n = eqb-true x.rank (low + n) there.1 in
          let key : front b x.key ≡ f = all_among (λ p. front b p.key ≡ f) ps x same there.0 in
          elim (covers a x) as (λ t. covers a x ≡ t → IsFound a low ps (cond t (Some x) (find (covers a) (listed low n ps)))) [
            | true ↦ λ e. (there.0, e, all_weaker (IsBelow a (low + suc n)) (IsBelow a (x.rank + 1)) (λ q h c. omega (arith, h c, rank)) ps all)
            | false ↦ λ e. in_list a f b low n ps same (
                all_both (IsBelow a (low + suc n)) (λ q. front b q.key ≡ f) (IsBelow a (low + n)) (λ q h fq c. elim (cases_eq q.rank (low + n)) [
                  | inl is ↦ (let no = cover_same a f b (low + n) x q key fq (omega arith) rank is c in cc)
                  | inr ne ↦ omega (arith, h c, ne)
                ]) ps all same
                ) (omega arith)
          ] refl
          )
    ] refl

-- ---- at a bit node
-- a key with a 1 past its rank isn't one
past_one : (b : ℕ) (p : Pair) → IsMasked p → b ≤ 31 → bit b p.key ≡ 1 → b < p.rank
past_one b p masked within one = elim (cases_lt b p.rank) [
  | inl lt ↦ lt
  | inr le ↦ (let clear : bit b p.key ≡ 0 = subst (λ k. bit b k ≡ 0) masked ((masked_bits p.rank p.key b (omega arith)).1 le) in omega arith)
]

-- a route that covers the address has its bits before its rank
same_bit : (a b : ℕ) (p : Pair) → b < p.rank → b ≤ 31 → covers a p ≡ true → bit b p.key ≡ bit b a
same_bit a b p lt within c = bit_of_front p.rank p.key a b lt (omega arith) (eqb-true _ _ c)

other_side : (a b : ℕ) (p : Pair) → bit b p.key ≡ 0 → bit b a ≡ 1 → b ≤ 31 → IsBelow a (b + 1) p
other_side a b p z one within c = elim (cases_lt b p.rank) [
  | inl lt ↦ (let same = same_bit a b p lt within c in omega arith)
  | inr le ↦ omega arith
]

-- where the address has a 0, no route with a 1 covers it
never : (a b top : ℕ) (p : Pair) → IsMasked p → bit b p.key ≡ 1 → bit b a ≡ 0 → b ≤ 31 → IsBelow a top p
never a b top p masked one z within c = let same = same_bit a b p (past_one b p masked within one) within c in absurd (omega arith)

module _ (a low b : ℕ) (left right : Tree) (is : IsFork low b left right) where
  abbrev all_beneath : Type 0
  all_beneath = AllByRecursion IsMasked (routes_of left ++ routes_of right)

  -- what is found on the side of the address is found beneath; else it may be listed
  with_right : bit b a ≡ 1 → all_beneath → (o : Option Pair) → IsFound a (b + 1) (routes_of right) o
      → IsFound a low (routes_of left ++ routes_of right) (option_or o (find (covers a) (masks_of low b (routes_of left ++ routes_of right))))
  with_right one are (Some p) h =
      let ones : bit b p.key ≡ 1 = all_among (λ q. bit b q.key ≡ 1) (routes_of right) p is.ones h.0 in
      let masked : IsMasked p = all_among IsMasked (routes_of right) p (all_right IsMasked (routes_of left) (routes_of right) are) h.0 in
      let past : b < p.rank = past_one b p masked is.within ones in (
        among_right p (routes_of left) (routes_of right) h.0,
        h.1,
        all_append (IsBelow a (p.rank + 1)) (routes_of left) (routes_of right) (
            all_weaker (λ q. bit b q.key ≡ 0) (IsBelow a (p.rank + 1)) (λ q z c. omega (arith, other_side a b q z one is.within c, past)) (routes_of left) is.zeros
            ) h.2,
      )
  with_right one are None h = in_list a is.before b low (b + 1 - low) (routes_of left ++ routes_of right) is.agree (
      all_weaker (IsBelow a (b + 1)) (IsBelow a (low + (b + 1 - low))) (λ q k c. omega (arith, k c, is.rises)) (routes_of left ++ routes_of right) (
      all_append (IsBelow a (b + 1)) (routes_of left) (routes_of right)
      (all_weaker (λ q. bit b q.key ≡ 0) (IsBelow a (b + 1)) (λ q z. other_side a b q z one is.within) (routes_of left) is.zeros) h
      )
      ) (omega (arith, is.rises))

  never_right : bit b a ≡ 0 → all_beneath → (top : ℕ) → AllByRecursion (IsBelow a top) (routes_of right)
  never_right z are top = all_both IsMasked (λ q. bit b q.key ≡ 1) (IsBelow a top) (λ q m one. never a b top q m one z is.within) (routes_of right)
      (all_right IsMasked (routes_of left) (routes_of right) are) is.ones

  with_left : bit b a ≡ 0 → all_beneath → (o : Option Pair) → IsFound a (b + 1) (routes_of left) o
      → IsFound a low (routes_of left ++ routes_of right) (option_or o (find (covers a) (masks_of low b (routes_of left ++ routes_of right))))
  with_left z are (Some p) h = (
    among_left p (routes_of left) (routes_of right) h.0,
    h.1,
    all_append (IsBelow a (p.rank + 1)) (routes_of left) (routes_of right) h.2 (never_right z are (p.rank + 1)),
  )
  with_left z are None h = in_list a is.before b low (b + 1 - low) (routes_of left ++ routes_of right) is.agree (
      all_weaker (IsBelow a (b + 1)) (IsBelow a (low + (b + 1 - low))) (λ q k c. omega (arith, k c, is.rises)) (routes_of left ++ routes_of right)
      (all_append (IsBelow a (b + 1)) (routes_of left) (routes_of right) h (never_right z are (b + 1)))
      ) (omega (arith, is.rises))

pub search_finds : (a low : ℕ) (t : Tree) → IsTree low t → AllByRecursion IsMasked (routes_of t) → IsFound a low (routes_of t) (found low a t)
search_finds a low (leaf []) h are = absurd h
search_finds a low (leaf (p ∷ ps)) h are = in_chain a low p.key 34 (p ∷ ps) h
search_finds a low (fork b left right) h are =
    elim (bit b a == 1) as (λ t. (bit b a == 1) ≡ t → IsFound a low (routes_of left ++ routes_of right)
    (option_or (cond t (found (b + 1) a right) (found (b + 1) a left)) (find (covers a) (masks_of low b (routes_of left ++ routes_of right))))) [
      | true ↦ λ e. with_right a low b left right h.0 (eqb-true (bit b a) 1 e) are (found (b + 1) a right)
          (search_finds a (b + 1) right h.2 (all_right IsMasked (routes_of left) (routes_of right) are))
      | false ↦ λ e. with_left a low b left right h.0 (let ne = eqb-false (bit b a) 1 e in omega (arith, ne)) are (found (b + 1) a left)
          (search_finds a (b + 1) left h.1 (all_left IsMasked (routes_of left) (routes_of right) are))
    ] refl
