-- The first element that passes a test: found by its place, and changed there.
use Rattle.std.proofs.Common.{◌≡◌, ℕ, zero, suc, ◌<◌, Bool, true, false, cond, ◌||◌, if◌then◌else◌, List, [], ◌∷◌, length, map, Some, None, is_some, option_map, refl, ap, ◌∙◌, arith, slice_index_or, slice_set, nat_lt}
use Rattle.std.specs.List.{find, list_any, position, position_or_len}
use Rattle.std.proofs.lemmas.List.Quantifiers.{position-Some}
use Rattle.std.proofs.lemmas.Bool.{ltb-false}
use Rattle.std.proofs.lemmas.List.{length-map}
use Rattle.std.proofs.lemmas.List.Folds.{find_at}
use Rattle.std.proofs.lemmas.Option.{slice_get_past}
use Rattle.std.proofs.Math.ListN.{get_or-map}
use Rattle.sock_addrs.specs.First.{change_first}

-- the element at place i passes, and none before it
pub record IsFirst {X : Type 0} (p : X → Bool) (xs : List X) (i : ℕ) (d : X) : Type 0 where
  pub within : i < length xs
  pub passes : p (slice_index_or xs i d) ≡ true
  pub none_before : (k : ℕ) → k < i → p (slice_index_or xs k d) ≡ false

pub first-position : {X : Type 0} (p : X → Bool) (xs : List X) (i : ℕ) (d : X) → position p xs ≡ Some i → IsFirst p xs i d
first-position p xs i d h = let f = position-Some p xs i d h in record { within = f.0; passes = f.1; none_before = f.2 }

rest : {X : Type 0} (p : X → Bool) (x : X) (xs : List X) (i : ℕ) (d : X) → IsFirst p (x ∷ xs) (suc i) d → IsFirst p xs i d
rest p x xs i d h = record {
  within = omega (arith, h.within);
  passes = h.passes;
  none_before = λ k l. h.none_before (suc k) (omega (arith, l));
}

pub find-first : {X : Type 0} (p : X → Bool) (xs : List X) (i : ℕ) (d : X) → IsFirst p xs i d → find p xs ≡ Some (slice_index_or xs i d)
find-first p [] i d h = absurd (omega (arith, h.within))
find-first p (x ∷ xs) zero d h = rw h.passes refl
find-first p (x ∷ xs) (suc i) d h = rw (h.none_before 0 (omega arith)) (find-first p xs i d (rest p x xs i d h))

pub change_first-set : {X : Type 0} (p : X → Bool) (f : X → X) (xs : List X) (i : ℕ) (y d : X) → IsFirst p xs i d → y ≡ f (slice_index_or xs i d) → slice_set xs i y ≡ change_first p f xs
change_first-set p f [] i y d h e = absurd (omega (arith, h.within))
change_first-set p f (x ∷ xs) zero y d h e = rw h.passes (ap (λ z. z ∷ xs) e)
change_first-set p f (x ∷ xs) (suc i) y d h e = rw (h.none_before 0 (omega arith)) (ap (λ r. x ∷ r) (change_first-set p f xs i y d (rest p x xs i d h) e))

-- a change that a function doesn't see leaves what it says of each
pub map-change_first : {X Y : Type 0} (v : X → Y) (p : X → Bool) (f : X → X) → ((x : X) → v (f x) ≡ v x) → (xs : List X) → map v (change_first p f xs) ≡ map v xs
map-change_first v p f same [] = refl
map-change_first v p f same (x ∷ xs) = elim (p x) as (λ b. map v (if b then f x ∷ xs else x ∷ change_first p f xs) ≡ map v (x ∷ xs))
    [ true ↦ ap (λ y. y ∷ map v xs) (same x) | false ↦ ap (λ ys. v x ∷ ys) (map-change_first v p f same xs) ]

pub length-change_first : {X : Type 0} (p : X → Bool) (f : X → X) (xs : List X) → length (change_first p f xs) ≡ length xs
length-change_first p f [] = refl
length-change_first p f (x ∷ xs) = elim (p x) as (λ b. length (if b then f x ∷ xs else x ∷ change_first p f xs) ≡ length (x ∷ xs))
    [ true ↦ refl | false ↦ ap suc (length-change_first p f xs) ]

-- where none passes nothing changes
pub change_first-none : {X : Type 0} (p : X → Bool) (f : X → X) (xs : List X) → find p xs ≡ None → change_first p f xs ≡ xs
change_first-none p f [] h = refl
change_first-none p f (x ∷ xs) h =
    elim (p x) as (λ b. cond b (Some x) (find p xs) ≡ None → (if b then f x ∷ xs else x ∷ change_first p f xs) ≡ x ∷ xs)
    [ true ↦ λ k. cc | false ↦ λ k. ap (λ ys. x ∷ ys) (change_first-none p f xs k) ] h

pub first-map : {X Y : Type 0} (v : X → Y) (p : Y → Bool) (xs : List X) (i : ℕ) (d : X) → IsFirst (λ x. p (v x)) xs i d → IsFirst p (map v xs) i (v d)
first-map v p xs i d h = record {
  within = omega (arith, h.within, length-map xs v);
  passes = rw (get_or-map v xs i d) h.passes;
  none_before = λ k l. rw (get_or-map v xs k d) (h.none_before k l);
}

found_at : {X : Type 0} (b : Bool) (x : X) (p : X → Bool) (xs : List X) → list_any p xs ≡ is_some (find p xs) → (b || list_any p xs) ≡ is_some (cond b (Some x) (find p xs))
found_at true x p xs e = refl
found_at false x p xs e = e

-- one passes where one is found
pub found : {X : Type 0} (p : X → Bool) (xs : List X) → list_any p xs ≡ is_some (find p xs)
found p [] = refl
found p (x ∷ xs) = found_at (p x) x p xs (found p xs)

not_some : {X : Type 0} (b : Bool) (x : X) → cond b (Some x) None ≡ None → b ≡ false
not_some true x h = cc
not_some false x h = refl

-- where there is no place none is found
pub none-position : {X : Type 0} (p : X → Bool) (xs : List X) → position p xs ≡ None → find p xs ≡ None
none-position p xs h = find_at p xs ∙ slice_get_past xs (position_or_len p xs) (ltb-false _ _ (not_some (nat_lt (position_or_len p xs) (length xs)) (position_or_len p xs) h))

pub list_any-map : {X Y : Type 0} (v : X → Y) (p : Y → Bool) (xs : List X) → list_any p (map v xs) ≡ list_any (λ x. p (v x)) xs
list_any-map v p [] = refl
list_any-map v p (x ∷ xs) = ap (λ b. p (v x) || b) (list_any-map v p xs)

find-map_at : {X Y : Type 0} (b : Bool) (x : X) (v : X → Y) (p : Y → Bool) (xs : List X) → find p (map v xs) ≡ option_map v (find (λ x. p (v x)) xs)
    → cond b (Some (v x)) (find p (map v xs)) ≡ option_map v (cond b (Some x) (find (λ x. p (v x)) xs))
find-map_at true x v p xs e = refl
find-map_at false x v p xs e = e

pub find-map : {X Y : Type 0} (v : X → Y) (p : Y → Bool) (xs : List X) → find p (map v xs) ≡ option_map v (find (λ x. p (v x)) xs)
find-map v p [] = refl
find-map v p (x ∷ xs) = find-map_at (p (v x)) x v p xs (find-map v p xs)
