-- There is one tree with these routes from left to right.
use Rattle.std.proofs.Common.{◌≡◌, ℕ, ◌+◌, ◌-◌, ◌<◌, ◌≤◌, zero, suc, true, false, List, [], ◌∷◌, ◌++◌, map, refl}
use Rattle.std.proofs.Common.{inl, inr, sym, ◌∙◌, ap, subst, arith, lit≤}
use Rattle.std.proofs.lemmas.Bool.{cases_eq, eq-eqb, ne_eqb}
use Rattle.std.proofs.lemmas.List.{append-nil, map-append}
use Rattle.std.specs.List.{AllByRecursion}
use Rattle.mask_table.specs.Agreeing.{bit, front}
use Rattle.mask_table.proofs.Agreeing.{bit_of_front}
use Rattle.radix_tree.specs.Tree.{Placed, Tree as RoomTree, leaf as room_leaf, fork as room_fork, bit_at, HaveBit as RoomsHaveBit, IsChain as IsRoomChain}
use Rattle.radix_tree.specs.Tree.{IsTree as IsRoomTree, routes_of as entries_of}
use Rattle.tree_pictures.specs.Laws.{pair_of, pairs_of, shape_of, TreesAreUnique, TablesKeepThisTree}
use Rattle.tree_pictures.specs.Tree.{Tree, leaf, fork, routes_of, has_one, zeros_of, ones_of, forked, tree_from, IsChain, IsTree}
use Rattle.tree_pictures.proofs.Lists.{all_weaker, all_append}
use Rattle.tree_pictures.specs.declared.pair.Pair.{Pair}

abbrev HasBit : ℕ → ℕ → Pair → Type 0
HasBit b v p = bit b p.key ≡ v

abbrev AllHave : ℕ → ℕ → List Pair → Type 0
AllHave b v ps = AllByRecursion (HasBit b v) ps

abbrev IsSome : List Pair → Type 0
IsSome [] = ⊥
IsSome (p ∷ ps) = Unit {0}

-- what of a tree determines it
abbrev pub IsShaped : ℕ → Tree → Type 0
IsShaped low (leaf ps) = IsSome ps × ((c : ℕ) → c ≤ 31 → (v : ℕ) × AllHave c v ps)
IsShaped low (fork b left right) = (low ≤ b) × (b ≤ 31) × ((c : ℕ) → c < b → (v : ℕ) × AllHave c v (routes_of left ++ routes_of right))
    × AllHave b 0 (routes_of left) × AllHave b 1 (routes_of right) × IsShaped (b + 1) left × IsShaped (b + 1) right

-- ---- a list at a bit
zero_test : (b : ℕ) (p : Pair) → HasBit b 0 p → has_one b p ≡ false
zero_test b p h = ne_eqb _ _ (λ one. omega (arith, h, one))

no_ones : (b : ℕ) (zs os : List Pair) → AllHave b 0 zs → AllHave b 1 os → (zeros_of b (zs ++ os) ≡ zs) × (ones_of b (zs ++ os) ≡ os)
no_ones b [] [] h k = (refl, refl)
no_ones b [] (o ∷ os) h k = let one : has_one b o ≡ true = eq-eqb _ _ k.0 in (rw one refl, rw one refl)
no_ones b (z ∷ zs) os h k =
    let no : has_one b z ≡ false = zero_test b z h.0 in
    let rest = no_ones b zs os h.1 k in
    (rw no (ap (λ s. z ∷ s) rest.0), rw no rest.1)

split_here : (b : ℕ) (next : List Pair → Tree) (zs os : List Pair) → IsSome zs → IsSome os → forked b next zs os ≡ fork b (next zs) (next os)
split_here b next [] os z o = absurd z
split_here b next (z ∷ zs) [] s o = absurd o
split_here b next (z ∷ zs) (o ∷ os) s t = refl

-- one list at a bit that all have
passed : (b v : ℕ) (next : List Pair → Tree) (ps : List Pair) → IsSome ps → AllHave b v ps → forked b next (zeros_of b ps) (ones_of b ps) ≡ next ps
passed b v next [] some all = absurd some
passed b v next (p ∷ ps) some all = elim (cases_eq v 1) [
  | inl is ↦ (
      let sides = no_ones b [] (p ∷ ps) tt (subst (λ w. AllHave b w (p ∷ ps)) is all) in
      rw (sides.0, sides.1) refl
      )
  | inr not_one ↦ (
      let no : v ≡ 0 = omega (arith, not_one, all.0) in
      let sides = no_ones b (p ∷ ps) [] (subst (λ w. AllHave b w (p ∷ ps)) no all) tt in
      let left : zeros_of b (p ∷ ps) ≡ p ∷ ps = subst (λ s. zeros_of b s ≡ p ∷ ps) (append-nil (p ∷ ps)) sides.0 in
      let right : ones_of b (p ∷ ps) ≡ [] = subst (λ s. ones_of b s ≡ []) (append-nil (p ∷ ps)) sides.1 in
      rw (left, right) refl
      )
]

some_left : (xs ys : List Pair) → IsSome xs → IsSome (xs ++ ys)
some_left [] ys s = absurd s
some_left (x ∷ xs) ys s = tt

some_routes : (low : ℕ) (t : Tree) → IsShaped low t → IsSome (routes_of t)
some_routes low (leaf ps) h = h.0
some_routes low (fork b left right) h = some_left (routes_of left) (routes_of right) (some_routes (b + 1) left h.5)

-- ---- one tree
pub unique_from : (n : ℕ) → n ≤ 32 → (low : ℕ) → low ≡ 32 - n → (t : Tree) → IsShaped low t → tree_from n (routes_of t) ≡ t
unfolding tree_from
unique_from zero le low is (leaf ps) h = refl
unique_from zero le low is (fork b left right) h = absurd (omega (arith, h.0, h.1))
unique_from (suc n) le low is (leaf ps) h =
    let all = h.1 (31 - n) (omega arith) in
    passed (31 - n) all.0 (tree_from n) ps h.0 all.1 ∙ unique_from n (omega arith) (32 - n) refl (leaf ps) h
unique_from (suc n) le low is (fork b left right) h = elim (cases_eq b (31 - n)) [
  | inl here ↦ (
      let sides = no_ones b (routes_of left) (routes_of right) h.3 h.4 in
      let both : forked b (tree_from n) (zeros_of b (routes_of left ++ routes_of right)) (ones_of b (routes_of left ++ routes_of right)) ≡ fork b left right =
      rw (sides.0, sides.1) (
      split_here b (tree_from n) (routes_of left) (routes_of right) (some_routes (b + 1) left h.5) (some_routes (b + 1) right h.6)
      ∙ ap (λ l. fork b l (tree_from n (routes_of right))) (unique_from n (omega arith) (b + 1) (omega arith) left h.5)
      ∙ ap (λ r. fork b left r) (unique_from n (omega arith) (b + 1) (omega arith) right h.6)
      ) in
      subst (λ c. forked c (tree_from n) (zeros_of c (routes_of left ++ routes_of right)) (ones_of c (routes_of left ++ routes_of right)) ≡ fork b left right)
      here both
      )
  | inr ne ↦ (
      let all = h.2 (31 - n) (omega (arith, ne, h.0)) in
      passed (31 - n) all.0 (tree_from n) (routes_of left ++ routes_of right) (some_routes low (fork b left right) h) all.1
      ∙ unique_from n (omega arith) (32 - n) refl (fork b left right) (omega (arith, ne, h.0), h.1, h.2, h.3, h.4, h.5, h.6)
      )
]

-- ---- trees
chain_has : (c key top : ℕ) (ps : List Pair) → IsChain key top ps → AllHave c (bit c key) ps
chain_has c key top [] h = tt
chain_has c key top (p ∷ ps) h = (ap (λ k. bit c k) h.0, chain_has c key p.rank ps h.2)

same_bits : (b f c : ℕ) (ps : List Pair) → c < b → b ≤ 31 → AllByRecursion (λ p. front b p.key ≡ f) ps → (v : ℕ) × AllHave c v ps
same_bits b f c [] lt within h = (0, tt)
same_bits b f c (p ∷ ps) lt within h = (
  bit c p.key,
  all_weaker (λ q. front b q.key ≡ f) (HasBit c (bit c p.key))
      (λ q same. bit_of_front b q.key p.key c lt (omega arith) (same ∙ sym h.0)) (p ∷ ps) h,
)

shaped : (low : ℕ) (t : Tree) → IsTree low t → IsShaped low t
shaped low (leaf []) h = absurd h
shaped low (leaf (p ∷ ps)) h = (tt, λ c within. (bit c p.key, chain_has c p.key 34 (p ∷ ps) h))
shaped low (fork b left right) h = (
  h.0.rises,
  h.0.within,
  (λ c lt. same_bits b h.0.before c (routes_of left ++ routes_of right) lt h.0.within h.0.agree),
  h.0.zeros,
  h.0.ones,
  shaped (b + 1) left h.1,
  shaped (b + 1) right h.2,
)

pub trees_are_unique : TreesAreUnique
trees_are_unique t h = sym (unique_from 32 (lit≤ tt) 0 refl t (shaped 0 t h))

-- ---- trees in rooms
module _ {V : Type 0} where
  abbrev beneath : RoomTree V → List Pair
  beneath t = routes_of (shape_of t)

  room_chain_has : (c key top : ℕ) (xs : List (Placed V)) → IsRoomChain key top xs → AllHave c (bit c key) (map (λ x. pair_of x.entry) xs)
  room_chain_has c key top [] h = tt
  room_chain_has c key top (x ∷ xs) h = (ap (λ k. bit c k) h.1, room_chain_has c key x.entry.rank xs h.3)

  rooms_have : (c v low : ℕ) (t : RoomTree V) → IsRoomTree low t → RoomsHaveBit c v t → AllHave c v (beneath t)
  unfolding bit_at
  rooms_have c v low (room_leaf x xs) h has = subst (λ w. AllHave c w (beneath (room_leaf x xs))) has (room_chain_has c x.entry.key 34 (x ∷ xs) h.1)
  rooms_have c v low (room_fork room b left right) h has = all_append (HasBit c v) (beneath left) (beneath right)
      (rooms_have c v (b + 1) left h.1 has.0) (rooms_have c v (b + 1) right h.2 has.1)

  rooms_shaped : (low : ℕ) (t : RoomTree V) → IsRoomTree low t → IsShaped low (shape_of t)
  rooms_shaped low (room_leaf x xs) h = (tt, λ c within. (bit c x.entry.key, room_chain_has c x.entry.key 34 (x ∷ xs) h.1))
  rooms_shaped low (room_fork room b left right) h = (
    h.0.rises,
    h.0.within,
    (λ c lt. (
        let same = h.0.agree c lt in (
          same.0,
          all_append (HasBit c same.0) (beneath left) (beneath right) (rooms_have c same.0 (b + 1) left h.1 same.1)
              (rooms_have c same.0 (b + 1) right h.2 same.2),
        )
        )),
    rooms_have b 0 (b + 1) left h.1 h.0.zeros,
    rooms_have b 1 (b + 1) right h.2 h.0.ones,
    rooms_shaped (b + 1) left h.1,
    rooms_shaped (b + 1) right h.2,
  )

  chain_pairs : (xs : List (Placed V)) → map (λ x. pair_of x.entry) xs ≡ pairs_of (map (λ x. x.entry) xs)
  chain_pairs [] = refl
  chain_pairs (x ∷ xs) = ap (λ ps. pair_of x.entry ∷ ps) (chain_pairs xs)

  shape_routes : (t : RoomTree V) → beneath t ≡ pairs_of (entries_of t)
  shape_routes (room_leaf x xs) = chain_pairs (x ∷ xs)
  shape_routes (room_fork room b left right) =
      rw (shape_routes left, shape_routes right) (sym (map-append pair_of (entries_of left) (entries_of right)))

  pub tables_keep_this_tree : TablesKeepThisTree V
  tables_keep_this_tree t h =
      sym (unique_from 32 (lit≤ tt) 0 refl (shape_of t) (rooms_shaped 0 t h)) ∙ ap (λ ps. tree_from 32 ps) (shape_routes t)
