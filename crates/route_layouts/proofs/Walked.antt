-- One address more on the way through the addresses of a message.
use Rattle.std.proofs.Common.{◌≡◌, ℕ, ◌+◌, ◌^◌, ◌<◌, ◌≤◌, Bool, true, false, ◌&&◌, not, zero, suc, List, [], ◌++◌, slice_index, nat_lt, refl, ap, sym, ◌∙◌, add-one, arith, append-nil, if◌then◌else◌}
use Rattle.std.proofs.lemmas.Bool.{lt-ltb}
use Rattle.std.proofs.lemmas.Bool.Decides.{nat_tests}
use Rattle.route_layouts.specs.Addresses.{address_as, fits, rounded_to}
use Rattle.route_layouts.specs.Walk.{addrs_before, bytes_before, bytes_by, fit_before, has_room_before, is_there_at, offset_before, overruns_at, slot_at}
use Rattle.route_layouts.specs.declared.change.Change.{Change}

pub none : (b : Bool) → (b && false) ≡ false
none true = refl
none false = refl

and_true : (b : Bool) → (b && true) ≡ b
and_true true = refl
and_true false = refl

module _ (c : Change) (m : List ℕ) (addrs start k at : ℕ) (here : at ≡ offset_before c m addrs start k) where
  pub next_offset : offset_before c m addrs start (k + 1) ≡ at + (if is_there_at m addrs k at then rounded_to c.from_word (slice_index m at) else 0)
  unfolding offset_before
  next_offset = rw (add-one k, here) refl

  pub there_offset : (next : ℕ) → is_there_at m addrs k at ≡ true → next ≡ at + rounded_to c.from_word (slice_index m at) → next ≡ offset_before c m addrs start (k + 1)
  there_offset next there e = e ∙ sym (next_offset ∙ ap (λ (b : Bool). at + (if b then rounded_to c.from_word (slice_index m at) else 0)) there)

  pub absent_offset : is_there_at m addrs k at ≡ false → at ≡ offset_before c m addrs start (k + 1)
  absent_offset absent = sym (next_offset ∙ ap (λ (b : Bool). at + (if b then rounded_to c.from_word (slice_index m at) else 0)) absent ∙ omega arith)

  pub next_bytes : (made : ℕ → List ℕ → List ℕ) → bytes_by made c m addrs start (k + 1) ≡ bytes_by made c m addrs start k ++ (if is_there_at m addrs k at then made k (slot_at m at) else [])
  unfolding bytes_by
  next_bytes made = rw (add-one k, here) refl

  pub there_bytes : (old new : List ℕ) → old ≡ bytes_before c m addrs start k → is_there_at m addrs k at ≡ true → new ≡ old ++ address_as c k (slot_at m at) → new ≡ bytes_before c m addrs start (k + 1)
  there_bytes old new before there e =
      e ∙ ap (λ (xs : List ℕ). xs ++ address_as c k (slot_at m at)) before
      ∙ sym (next_bytes (address_as c) ∙ ap (λ (b : Bool). bytes_before c m addrs start k ++ (if b then address_as c k (slot_at m at) else [])) there)

  pub absent_bytes : (old : List ℕ) → old ≡ bytes_before c m addrs start k → is_there_at m addrs k at ≡ false → old ≡ bytes_before c m addrs start (k + 1)
  absent_bytes old before absent =
      before ∙ sym (next_bytes (address_as c) ∙ ap (λ (b : Bool). bytes_before c m addrs start k ++ (if b then address_as c k (slot_at m at) else [])) absent ∙ append-nil (bytes_before c m addrs start k))

  pub next_addrs : addrs_before c m addrs start (k + 1) ≡ addrs_before c m addrs start k + (if is_there_at m addrs k at then 2 ^ k else 0)
  unfolding addrs_before
  next_addrs = rw (add-one k, here) refl

  pub there_addrs : (old new : ℕ) → old ≡ addrs_before c m addrs start k → is_there_at m addrs k at ≡ true → new ≡ old + 2 ^ k → new ≡ addrs_before c m addrs start (k + 1)
  there_addrs old new before there e =
      e ∙ ap (λ (n : ℕ). n + 2 ^ k) before
      ∙ sym (next_addrs ∙ ap (λ (b : Bool). addrs_before c m addrs start k + (if b then 2 ^ k else 0)) there)

  pub absent_addrs : (old : ℕ) → old ≡ addrs_before c m addrs start k → is_there_at m addrs k at ≡ false → old ≡ addrs_before c m addrs start (k + 1)
  absent_addrs old before absent =
      before ∙ sym (next_addrs ∙ ap (λ (b : Bool). addrs_before c m addrs start k + (if b then 2 ^ k else 0)) absent ∙ omega arith)

  pub next_fit : fit_before c m addrs start (k + 1) ≡ (fit_before c m addrs start k && (if is_there_at m addrs k at then fits c k (slot_at m at) else true))
  unfolding fit_before
  next_fit = rw (add-one k, here) refl

  pub there_fit : (old new : Bool) → old ≡ fit_before c m addrs start k → is_there_at m addrs k at ≡ true → new ≡ (old && fits c k (slot_at m at)) → new ≡ fit_before c m addrs start (k + 1)
  there_fit old new before there e =
      e ∙ ap (λ (b : Bool). b && fits c k (slot_at m at)) before
      ∙ sym (next_fit ∙ ap (λ (b : Bool). fit_before c m addrs start k && (if b then fits c k (slot_at m at) else true)) there)

  pub absent_fit : (old : Bool) → old ≡ fit_before c m addrs start k → is_there_at m addrs k at ≡ false → old ≡ fit_before c m addrs start (k + 1)
  absent_fit old before absent =
      before ∙ sym (next_fit ∙ ap (λ (b : Bool). fit_before c m addrs start k && (if b then fits c k (slot_at m at) else true)) absent ∙ and_true (fit_before c m addrs start k))

  pub next_room : has_room_before c m addrs start (k + 1) ≡ (has_room_before c m addrs start k && not (overruns_at m addrs k at))
  unfolding has_room_before
  next_room = rw (add-one k, here) refl

  pub still_room : has_room_before c m addrs start k ≡ true → overruns_at m addrs k at ≡ false → has_room_before c m addrs start (k + 1) ≡ true
  still_room before fits =
      next_room ∙ ap (λ (b : Bool). b && not (overruns_at m addrs k at)) before ∙ ap not fits

  pub room_lost : overruns_at m addrs k at ≡ true → has_room_before c m addrs start (k + 1) ≡ false
  room_lost over = next_room ∙ ap (λ (b : Bool). has_room_before c m addrs start k && not b) over ∙ none (has_room_before c m addrs start k)

-- room that is lost stays lost
stays_lost : (c : Change) (m : List ℕ) (addrs start k : ℕ) → has_room_before c m addrs start k ≡ false → has_room_before c m addrs start (suc k) ≡ false
unfolding has_room_before
stays_lost c m addrs start k h = ap (λ (b : Bool). b && not (overruns_at m addrs k (offset_before c m addrs start k))) h

pub lost_by : (c : Change) (m : List ℕ) (addrs start k n : ℕ) → has_room_before c m addrs start k ≡ false → has_room_before c m addrs start (k + n) ≡ false
lost_by c m addrs start k zero h = let e : k + 0 ≡ k = omega arith in rw e h
lost_by c m addrs start k (suc n) h =
    let e : k + suc n ≡ suc (k + n) = omega arith in
    rw e (stays_lost c m addrs start (k + n) (lost_by c m addrs start k n h))

pub first : (c : Change) (m : List ℕ) (addrs start : ℕ) → start ≡ offset_before c m addrs start 0
unfolding offset_before
first c m addrs start = refl

pub over_of : (b : Bool) (x y : ℕ) → b ≡ true → x < y → (b && nat_lt x y) ≡ true
over_of true x y there less = lt-ltb x y less
over_of false x y there less = cc

pub none_over : (b : Bool) (x y : ℕ) → y ≤ x → (b && nat_lt x y) ≡ false
none_over true x y most = grind (arith, nat_tests)
none_over false x y most = refl

pub absent_over : (b : Bool) (x y : ℕ) → b ≡ false → (b && nat_lt x y) ≡ false
absent_over true x y absent = cc
absent_over false x y absent = refl
