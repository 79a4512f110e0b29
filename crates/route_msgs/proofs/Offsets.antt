-- Where the next address begins, and which addresses have been found on the way.
use Rattle.std.proofs.Common.{◌≡◌, ◌≢◌, ℕ, ◌+◌, ◌<◌, ◌≤◌, Bool, true, false, ◌||◌, not, zero, suc, List, [], ◌∷◌, length, get_or, set, get_or-set_same, get_or-set_other, refl, ap, sym, ◌∙◌, add-one, arith, Option, Some, None, is_some, if◌then◌else◌, slice_index, ◌⊎◌, inl, inr}
use Rattle.std.proofs.Math.Bool.{or-true}
use Rattle.route_msgs.specs.Slots.{offset_of, is_there_at, slot_at, room_at, overruns, overruns_at, overruns_below, has_room, slot_in, slots_in}
use Rattle.sock_addrs.specs.Rounding.{rounded}
use Rattle.route_msgs.specs.declared.parsed.Slot.{Slot}

pub offset_first : (m : List ℕ) → offset_of m 0 ≡ 76
unfolding offset_of
offset_first m = refl

offset_next : (m : List ℕ) (k : ℕ) → offset_of m (k + 1) ≡ offset_of m k + room_at m k (offset_of m k)
unfolding offset_of
offset_next m k = rw (add-one k) refl

is_some_is : {X : Type 0} (b : Bool) (x : X) (n : ℕ) → is_some (if b then Some x else None) ≡ true → (if b then n else 0) ≡ n
is_some_is true x n h = refl
is_some_is false x n h = cc

is_none_is : {X : Type 0} (b : Bool) (x : X) (n : ℕ) → is_some (if b then Some x else None) ≡ false → (if b then n else 0) ≡ 0
is_none_is true x n h = cc
is_none_is false x n h = refl

room_there : (m : List ℕ) (k at : ℕ) → is_some (slot_at m k at) ≡ true → room_at m k at ≡ rounded (slice_index m at)
room_there m k at h = is_some_is (is_there_at m k at) _ (rounded (slice_index m at)) h

room_not_there : (m : List ℕ) (k at : ℕ) → is_some (slot_at m k at) ≡ false → room_at m k at ≡ 0
room_not_there m k at h = is_none_is (is_there_at m k at) _ (rounded (slice_index m at)) h

-- where the next address begins, behind one that is there and behind one that is not
pub next_there : (m : List ℕ) (k at next used : ℕ) → at ≡ offset_of m k → is_some (slot_at m k at) ≡ true → used ≡ rounded (slice_index m at) → next ≡ at + used → next ≡ offset_of m (k + 1)
next_there m k at next used here some size e =
    e ∙ ap (λ n. at + n) (size ∙ sym (room_there m k at some)) ∙ ap (λ p. p + room_at m k p) here ∙ sym (offset_next m k)

pub next_not_there : (m : List ℕ) (k at next : ℕ) → at ≡ offset_of m k → is_some (slot_at m k at) ≡ false → next ≡ at → next ≡ offset_of m (k + 1)
next_not_there m k at next here none e =
    let more : next ≡ at + room_at m k at = omega (arith, room_not_there m k at none, e) in
    more ∙ ap (λ p. p + room_at m k p) here ∙ sym (offset_next m k)

pub rounded_most : (n : ℕ) → n < 256 → rounded n ≤ 256
rounded_most n h = omega arith

overruns_next : (m : List ℕ) (k : ℕ) → overruns_below m (k + 1) ≡ (overruns_below m k || overruns m k)
overruns_next m k = rw (add-one k) refl

pub still_room : (m : List ℕ) (k at : ℕ) → at ≡ offset_of m k → overruns_below m k ≡ false → overruns_at m k at ≡ false → overruns_below m (k + 1) ≡ false
still_room m k at here before h = overruns_next m k ∙ ap (λ b. b || overruns m k) before ∙ ap (overruns_at m k) (sym here) ∙ h

-- what holds of each place below i, and of the value that is now put at i, holds below i + 1
pub put_each : {X : Type 0} (P : ℕ → X → Type 0) (xs : List X) (i : ℕ) (x d : X) → i < length xs → ((k : ℕ) → k < i → P k (get_or xs k d)) → P i x → (k : ℕ) → k < i + 1 → P k (get_or (set xs i x) k d)
put_each P xs i x d fits before here k less =
    let split : (k ≡ i) ⊎ (k < i) = grind arith in
    elim split [
      | inl e ↦ rw (e, get_or-set_same xs i x d fits) here
      | inr l ↦ let other : k ≢ i = omega arith in rw (get_or-set_other xs i k x d other) (before k l)
    ]

-- the same for all places
pub put_any : {X : Type 0} (P : X → Type 0) (xs : List X) (i : ℕ) (x d : X) → i < length xs → ((k : ℕ) → P (get_or xs k d)) → P x → (k : ℕ) → P (get_or (set xs i x) k d)
put_any P xs i x d fits before here k =
    let split : (k ≡ i) ⊎ (k ≢ i) = grind arith in
    elim split [
      | inl e ↦ rw (e, get_or-set_same xs i x d fits) here
      | inr other ↦ rw (get_or-set_other xs i k x d other) (before k)
    ]

-- an address that overruns is among the first of any longer list
overruns_among : (m : List ℕ) (n k : ℕ) → k < n → overruns m k ≡ true → overruns_below m n ≡ true
overruns_among m zero k less h = absurd (omega arith)
overruns_among m (suc n) k less h =
    let split : (k ≡ n) ⊎ (k < n) = grind arith in
    elim split [
      | inl e ↦ ap (λ b. overruns_below m n || b) (ap (overruns m) (sym e) ∙ h) ∙ or-true (overruns_below m n)
      | inr l ↦ ap (λ b. b || overruns m n) (overruns_among m n k l h)
    ]

pub no_room : (m : List ℕ) (k : ℕ) → overruns m k ≡ true → k < 8 → has_room m ≡ false
no_room m k h less = ap not (overruns_among m 8 k less h)

unfoldable pub values_from : {X : Type 0} → (ℕ → X) → ℕ → ℕ → List X
values_from f i zero = []
values_from f i (suc n) = f i ∷ values_from f (suc i) n

pub built : {X : Type 0} (f : ℕ → X) (d : X) (i n : ℕ) (xs : List X) → length xs ≡ n → ((k : ℕ) → k < n → get_or xs k d ≡ f (i + k)) → xs ≡ values_from f i n
unfolding values_from
built f d i zero [] size each = refl
built f d i zero (x ∷ xs) size each = absurd (omega arith)
built f d i (suc n) [] size each = absurd (omega arith)
built f d i (suc n) (x ∷ xs) size each =
    let rest : (k : ℕ) → k < n → get_or xs k d ≡ f (suc i + k) = λ k less. let e : i + suc k ≡ suc i + k = omega arith in each (suc k) (omega arith) ∙ ap f e in
    let first : x ≡ f i = each 0 (omega arith) ∙ ap f (omega arith) in
    ap (λ y. y ∷ xs) first ∙ ap (λ ys. f i ∷ ys) (built f d (suc i) n xs (omega arith) rest)

-- eight places that hold each address's slot are the slots
pub slots_built : (m : List ℕ) (slots : List (Option Slot)) → length slots ≡ 8 → ((k : ℕ) → k < 8 → get_or slots k None ≡ slot_in m k) → slots ≡ slots_in m
unfolding values_from
slots_built m slots size each = built (slot_in m) None 0 8 slots size (λ k less. each k less ∙ ap (slot_in m) (omega arith))
