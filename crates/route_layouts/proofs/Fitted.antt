-- One address as another layout has it.
use Rattle.std.proofs.Common.{◌≡◌, ℕ, ◌+◌, ◌-◌, ◌*◌, ◌/◌, ◌<◌, ◌≤◌, Bool, true, false, ◌&&◌, not, nat_le, max, List, [], ◌∷◌, ◌++◌, length, take, drop, replicate, refl, ap, ◌∙◌, arith, append-nil, take_all, length-append, length-drop, if◌then◌else◌}
use Rattle.std.specs.Prelude.{slice_index}
use Rattle.std.proofs.lemmas.Bool.{leb-true}
use Rattle.std.proofs.lemmas.List.{length-replicate, length-take}
use native.Mathlib.Nat.{lt-mul-div-succ}
use Rattle.route_layouts.specs.Addresses.{address_as, fitted, has_number, is_link, is_mask, length_as, rounded_to, sized, swapped, turned}
use Rattle.route_layouts.specs.declared.change.Change.{Change}
use Rattle.route_layouts.proofs.NumbersRead.{both}

-- ---- with another length byte

pub length-sized : (n : ℕ) (s : List ℕ) → 1 ≤ length s → length (sized n s) ≡ max n 1
length-sized n s there =
    omega (arith, length-append (take (n - 1) (drop 1 s)) (replicate (n - length s) 0), length-take (n - 1) (drop 1 s), length-drop 1 s, length-replicate {A = ℕ} (n - length s) 0)

-- an address that has as many bytes as its length byte says is itself with that length byte
pub sized_whole : (s : List ℕ) → length s ≡ max (slice_index s 0) 1 → sized (slice_index s 0) s ≡ s
sized_whole [] whole = absurd (omega (arith, whole))
sized_whole (a ∷ r) whole =
    let none : a - length (a ∷ r) ≡ 0 = omega (arith, whole) in
    let all : take (a - 1) r ≡ r = take_all (a - 1) r (omega (arith, whole)) in
    ap (λ (n : ℕ). a ∷ take (a - 1) r ++ replicate n 0) none
    ∙ ap (λ (xs : List ℕ). a ∷ xs ++ []) all
    ∙ append-nil (a ∷ r)

-- ---- turned

four : (s : List ℕ) → 4 ≤ length s → slice_index s 0 ∷ slice_index s 1 ∷ slice_index s 2 ∷ slice_index s 3 ∷ drop 4 s ≡ s
four [] h = absurd (omega arith)
four (a ∷ []) h = absurd (omega arith)
four (a ∷ b ∷ []) h = absurd (omega arith)
four (a ∷ b ∷ c ∷ []) h = absurd (omega arith)
four (a ∷ b ∷ c ∷ d ∷ rest) h = refl

pub long_of : (s : List ℕ) → has_number s ≡ true → 4 ≤ length s
long_of s h =
    let parts : (is_link s ≡ true) × (nat_le 4 (length s) ≡ true) = both _ _ h in
    leb-true 4 (length s) parts.1

length-swapped : (s : List ℕ) → 4 ≤ length s → length (swapped s) ≡ length s
length-swapped s h = omega (arith, length-drop 4 s)

pub swapped_twice : (s : List ℕ) → 4 ≤ length s → swapped (swapped s) ≡ s
swapped_twice s h = four s h

-- which of two an address is
pub turned_is : (swaps b : Bool) (s : List ℕ) → has_number s ≡ b → turned swaps s ≡ (if swaps && b then swapped s else s)
turned_is swaps b s h = ap (λ (x : Bool). if swaps && x then swapped s else s) h

length-turned_by : (swaps b : Bool) (s : List ℕ) → has_number s ≡ b → length (turned swaps s) ≡ length s
length-turned_by true true s h = ap length (turned_is true true s h) ∙ length-swapped s (long_of s h)
length-turned_by true false s h = ap length (turned_is true false s h)
length-turned_by false b s h = refl

pub length-turned : (swaps : Bool) (s : List ℕ) → length (turned swaps s) ≡ length s
length-turned swaps s = length-turned_by swaps (has_number s) s refl

first-turned_by : (swaps b : Bool) (s : List ℕ) → has_number s ≡ b → slice_index (turned swaps s) 0 ≡ slice_index s 0
first-turned_by true true s h = ap (λ (x : List ℕ). slice_index x 0) (turned_is true true s h)
first-turned_by true false s h = ap (λ (x : List ℕ). slice_index x 0) (turned_is true false s h)
first-turned_by false b s h = refl

pub first-turned : (swaps : Bool) (s : List ℕ) → slice_index (turned swaps s) 0 ≡ slice_index s 0
first-turned swaps s = first-turned_by swaps (has_number s) s refl

second-turned_by : (swaps b : Bool) (s : List ℕ) → has_number s ≡ b → slice_index (turned swaps s) 1 ≡ slice_index s 1
second-turned_by true true s h = ap (λ (x : List ℕ). slice_index x 1) (turned_is true true s h)
second-turned_by true false s h = ap (λ (x : List ℕ). slice_index x 1) (turned_is true false s h)
second-turned_by false b s h = refl

pub second-turned : (swaps : Bool) (s : List ℕ) → slice_index (turned swaps s) 1 ≡ slice_index s 1
second-turned swaps s = second-turned_by swaps (has_number s) s refl

-- ---- as the other layout has it

module _ (c : Change) (k : ℕ) (s : List ℕ) where
  pub first-fitted : slice_index (fitted c k s) 0 ≡ length_as c k s
  first-fitted = first-turned (c.swaps && not (is_mask k)) (sized (length_as c k s) s)

  pub length-fitted : 1 ≤ length s → length (fitted c k s) ≡ max (length_as c k s) 1
  length-fitted there = length-turned (c.swaps && not (is_mask k)) (sized (length_as c k s) s) ∙ length-sized (length_as c k s) s there

pub rounded_holds : (w n : ℕ) → 1 ≤ w → max n 1 ≤ rounded_to w n
rounded_holds w n h =
    let a : ℕ = max n 1 + w - 1 in
    let less : a < w * (a / w + 1) = lt-mul-div-succ a (omega arith) in
    let split : w * (a / w + 1) ≡ a / w * w + w = grind arith in
    omega arith

-- it takes whole words there
pub length-address_as : (c : Change) (k : ℕ) (s : List ℕ) → 1 ≤ c.to_word → 1 ≤ length s → length (address_as c k s) ≡ rounded_to c.to_word (length_as c k s)
length-address_as c k s word there =
    let new : List ℕ = fitted c k s in
    let pad : ℕ = rounded_to c.to_word (slice_index new 0) - length new in
    let first = first-fitted c k s in
    let holds = rounded_holds c.to_word (length_as c k s) word in
    let same : rounded_to c.to_word (slice_index new 0) ≡ rounded_to c.to_word (length_as c k s) = ap (rounded_to c.to_word) first in
    omega (arith, length-append new (replicate pad 0), length-fitted c k s there, length-replicate {A = ℕ} pad 0, holds, same)
