-- The addresses of a converted message, converted on.
use Rattle.std.proofs.Common.{◌≡◌, ℕ, zero, suc, ◌+◌, ◌-◌, ◌*◌, ◌/◌, ◌%◌, ◌^◌, ◌<◌, ◌≤◌, ◌==◌, Bool, true, false, ◌&&◌, nat_lt, max, List, [], ◌++◌, length, take, drop, replicate, refl, sym, ap, ◌∙◌, arith, append_assoc, append-nil, length-append, length-drop, length-take-le, drop_at, take_at, get_or-drop, get_or-take, pow-suc, pow-add, if◌then◌else◌}
use Rattle.std.specs.Prelude.{slice_index}
use Rattle.std.specs.Int.{bit_at}
use Rattle.std.proofs.lemmas.Bool.{lt-ltb, ltb-true, le-ltb}
use Rattle.std.proofs.lemmas.Bool.Decides.{nat_tests}
use Rattle.std.proofs.lemmas.List.{get_or_append_left}
use Rattle.std.proofs.lemmas.Nat.{pow_pos}
use native.Mathlib.Nat.{add-mul-div_left, div-eq_of_lt, mul-add, mul-one, mul_assoc}
use Rattle.route_layouts.specs.Addresses.{address_as, fits, fitted, length_as, rounded_to}
use Rattle.route_layouts.specs.Walk.{addrs_before, bytes_before, bytes_by, fit_before, has_room_before, is_there_at, offset_before, overruns_at, slot_at}
use Rattle.route_layouts.specs.declared.change.Change.{Change}
use Rattle.route_layouts.proofs.Fitted.{first-fitted, length-address_as, length-fitted, rounded_holds}
use Rattle.route_layouts.proofs.NumbersRead.{both}
use Rattle.route_layouts.proofs.Settled.{IsWhole}
use Rattle.route_layouts.proofs.Walked.{lost_by, next_addrs, next_bytes, next_fit, next_offset, none, room_lost, still_room}

first_addrs : (c : Change) (m : List ℕ) (addrs start : ℕ) → addrs_before c m addrs start 0 < 2 ^ 0
unfolding addrs_before
first_addrs c m addrs start = omega arith

first_spot : (c d : Change) (m : List ℕ) (addrs start : ℕ) (new : List ℕ) (bits size : ℕ) → offset_before d new bits size 0 ≡ size + length (bytes_before c m addrs start 0)
unfolding offset_before bytes_by
first_spot c d m addrs start new bits size = omega arith

first_room : (c : Change) (m : List ℕ) (addrs start : ℕ) → has_room_before c m addrs start 0 ≡ true
unfolding has_room_before
first_room c m addrs start = refl

first_fit : (c : Change) (m : List ℕ) (addrs start : ℕ) → fit_before c m addrs start 0 ≡ true
unfolding fit_before
first_fit c m addrs start = refl

first_same : (c : Change) (m : List ℕ) (addrs start : ℕ) (d : Change) (n : List ℕ) (bits size : ℕ) → addrs_before c m addrs start 0 ≡ addrs_before d n bits size 0
unfolding addrs_before
first_same c m addrs start d n bits size = refl

first_bytes : (f g : ℕ → List ℕ → List ℕ) (c : Change) (m : List ℕ) (addrs start : ℕ) (d : Change) (n : List ℕ) (bits size : ℕ) → bytes_by f c m addrs start 0 ≡ bytes_by g d n bits size 0
unfolding bytes_by
first_bytes f g c m addrs start d n bits size = refl

test : (b : Bool) → ((if b then 1 else 0) == 1) ≡ b
test true = refl
test false = refl

not_over : (b : Bool) (x y : ℕ) → b ≡ true → (b && nat_lt x y) ≡ false → y ≤ x
not_over true x y is h = grind (arith, nat_tests)
not_over false x y is h = cc

either_address : (b : Bool) (x y : List ℕ) → (b ≡ true → x ≡ y) → (if b then x else []) ≡ (if b then y else [])
either_address true x y h = h refl
either_address false x y h = refl

either_fit : (b x y : Bool) → (b ≡ true → x ≡ true → y ≡ true) → (if b then x else true) ≡ true → (if b then y else true) ≡ true
either_fit true x y h is = h refl is
either_fit false x y h is = refl

module _ (c d : Change) (joined : d.from_word ≡ c.to_word) (m : List ℕ) (addrs start : ℕ) (head : List ℕ) (word : 1 ≤ c.to_word) (room : has_room_before c m addrs start 8 ≡ true) where
  abbrev at : ℕ → ℕ
  at k = offset_before c m addrs start k

  abbrev there : ℕ → Bool
  there k = is_there_at m addrs k (at k)

  abbrev bytes : ℕ → List ℕ
  bytes k = bytes_before c m addrs start k

  abbrev its : ℕ → List ℕ
  its k = if there k then address_as c k (slot_at m (at k)) else []

  abbrev bits : ℕ
  bits = addrs_before c m addrs start 8

  abbrev new : List ℕ
  new = head ++ bytes 8

  abbrev spot : ℕ → ℕ
  spot k = length head + length (bytes k)

  -- none of the addresses overruns
  fits_by : (k : ℕ) → k < 8 → (b : Bool) → overruns_at m addrs k (at k) ≡ b → overruns_at m addrs k (at k) ≡ false
  fits_by k less true h =
      let lost = lost_by c m addrs start (k + 1) (7 - k) (room_lost c m addrs start k (at k) refl h) in
      let all : k + 1 + (7 - k) ≡ 8 = omega arith in
      let none : has_room_before c m addrs start 8 ≡ false = ap (has_room_before c m addrs start) (sym all) ∙ lost in
      cc
  fits_by k less false h = h

  fits_at : (k : ℕ) → k < 8 → overruns_at m addrs k (at k) ≡ false
  fits_at k less = fits_by k less (overruns_at m addrs k (at k)) refl

  -- the bytes before an address, its own, and those behind
  split : (k n : ℕ) → (rest : List ℕ) × (bytes (k + n) ≡ bytes k ++ rest)
  split k zero = ([], let e : k + 0 ≡ k = omega arith in ap bytes e ∙ sym (append-nil (bytes k)))
  split k (suc n) =
      let before = split k n in
      let e : k + suc n ≡ k + n + 1 = omega arith in (
        before.0 ++ its (k + n),
        ap bytes e ∙ next_bytes c m addrs start (k + n) (at (k + n)) refl (address_as c)
            ∙ ap (λ (xs : List ℕ). xs ++ its (k + n)) before.1 ∙ append_assoc (bytes k) before.0 (its (k + n)),
      )

  parted : (k : ℕ) → k < 8 → (rest : List ℕ) × (new ≡ (head ++ bytes k) ++ (its k ++ rest))
  parted k less =
      let behind = split (k + 1) (7 - k) in
      let all : k + 1 + (7 - k) ≡ 8 = omega arith in
      let e : bytes 8 ≡ bytes k ++ (its k ++ behind.0) =
      ap bytes (sym all) ∙ behind.1 ∙ ap (λ (xs : List ℕ). xs ++ behind.0) (next_bytes c m addrs start k (at k) refl (address_as c)) ∙ append_assoc (bytes k) (its k) behind.0 in
      (behind.0, ap (λ (xs : List ℕ). head ++ xs) e ∙ sym (append_assoc head (bytes k) (its k ++ behind.0)))

  -- ---- the bits

  abbrev worth : ℕ → ℕ → ℕ
  worth k p = if there k then p else 0

  worth_le : (b : Bool) (p : ℕ) → (if b then p else 0) ≤ p
  worth_le true p = omega arith
  worth_le false p = omega arith

  below : (k : ℕ) → addrs_before c m addrs start k < 2 ^ k
  below zero = first_addrs c m addrs start
  below (suc k) =
      let e : suc k ≡ k + 1 = omega arith in
      let next = next_addrs c m addrs start k (at k) refl in
      let twice : 2 ^ suc k ≡ 2 ^ k * 2 = pow-suc 2 k in
      let some = worth_le (there k) (2 ^ k) in
      let less = below k in
      let sum : addrs_before c m addrs start (suc k) ≡ addrs_before c m addrs start k + worth k (2 ^ k) = ap (addrs_before c m addrs start) e ∙ next in
      omega (arith, some, less, sum, twice)

  scaled : (b : Bool) (p q : ℕ) → (if b then p * q else 0) ≡ p * (if b then q else 0)
  scaled true p q = refl
  scaled false p q = omega arith

  above : (k n : ℕ) → (r : ℕ) × (addrs_before c m addrs start (k + n) ≡ addrs_before c m addrs start k + 2 ^ k * r)
  above k zero = (0, let e : k + 0 ≡ k = omega arith in ap (addrs_before c m addrs start) e ∙ omega arith)
  above k (suc n) =
      let before = above k n in
      let e : k + suc n ≡ k + n + 1 = omega arith in
      let t : ℕ = if there (k + n) then 2 ^ n else 0 in
      let power : (if there (k + n) then 2 ^ (k + n) else 0) ≡ 2 ^ k * t = ap (λ (p : ℕ). if there (k + n) then p else 0) (pow-add 2 k n) ∙ scaled (there (k + n)) (2 ^ k) (2 ^ n) in
      let whole = ap (addrs_before c m addrs start) e ∙ next_addrs c m addrs start (k + n) (at (k + n)) refl in
      let sum : 2 ^ k * (before.0 + t) ≡ 2 ^ k * before.0 + 2 ^ k * t = mul-add (2 ^ k) before.0 t in
      (before.0 + t, omega (arith, whole, before.1, power, sum))

  bit_by : (k : ℕ) → k < 8 → bit_at bits k ≡ (if there k then 1 else 0)
  bit_by k less =
      let p : ℕ = 2 ^ k in
      let a : ℕ = addrs_before c m addrs start k in
      let t : ℕ = if there k then 1 else 0 in
      let behind = above (k + 1) (7 - k) in
      let all : k + 1 + (7 - k) ≡ 8 = omega arith in
      let one : (if there k then p else 0) ≡ p * t = ap (λ (q : ℕ). if there k then q else 0) (sym (mul-one p)) ∙ scaled (there k) p 1 in
      let next = next_addrs c m addrs start k (at k) refl in
      let e : k + 1 ≡ suc k = omega arith in
      let twice : 2 ^ (k + 1) ≡ p * 2 = ap (λ (n : ℕ). 2 ^ n) e ∙ pow-suc 2 k in
      let high : 2 ^ (k + 1) * behind.0 ≡ p * (2 * behind.0) = ap (λ (q : ℕ). q * behind.0) twice ∙ mul_assoc p 2 behind.0 in
      let sum : p * (t + 2 * behind.0) ≡ p * t + p * (2 * behind.0) = mul-add p t (2 * behind.0) in
      let whole : bits ≡ a + p * (t + 2 * behind.0) = ap (addrs_before c m addrs start) (sym all) ∙ omega (arith, behind.1, next, one, high, sum) in
      let small : a / p ≡ 0 = div-eq_of_lt (below k) in
      let quotient : bits / p ≡ a / p + (t + 2 * behind.0) = ap (λ (n : ℕ). n / p) whole ∙ add-mul-div_left a (t + 2 * behind.0) (pow_pos k) in
      let most = worth_le (there k) 1 in
      let total : bits / p ≡ t + 2 * behind.0 = omega (arith, quotient, small) in
      ap (λ (n : ℕ). n % 2) total ∙ omega (arith, most)

  bit_there : (k : ℕ) → k < 8 → (bit_at bits k == 1) ≡ there k
  bit_there k less = ap (λ (n : ℕ). n == 1) (bit_by k less) ∙ test (there k)

  -- ---- one address in its new place

  record Stands (k : ℕ) : Type 0 where
    same : is_there_at new bits k (spot k) ≡ there k
    takes : (if there k then rounded_to d.from_word (slice_index new (spot k)) else 0) ≡ length (its k)
    slot : there k ≡ true → slot_at new (spot k) ≡ fitted c k (slot_at m (at k))
    whole : there k ≡ true → IsWhole (slot_at m (at k))
    inside : overruns_at new bits k (spot k) ≡ false

  stands_absent : (k : ℕ) → k < 8 → there k ≡ false → Stands k
  stands_absent k less absent =
      let no_bit : (bit_at bits k == 1) ≡ false = bit_there k less ∙ absent in
      let gone : is_there_at new bits k (spot k) ≡ false = ap (λ (b : Bool). b && nat_lt (spot k) (length new)) no_bit in
      record {
        same = gone ∙ sym absent;
        takes = rw absent refl;
        slot = λ named. cc;
        whole = λ named. cc;
        inside = ap (λ (b : Bool). b && nat_lt (length new) (spot k + slice_index new (spot k))) gone;
      }

  -- the slot of an address that is there
  record Slot (k : ℕ) : Type 0 where
    some : 1 ≤ length (slot_at m (at k))
    whole : IsWhole (slot_at m (at k))

  slot_there : (k : ℕ) → k < 8 → there k ≡ true → Slot k
  slot_there k less named =
      let s : List ℕ = slot_at m (at k) in
      let n : ℕ = slice_index m (at k) in
      let parts : ((bit_at addrs k == 1) ≡ true) × (nat_lt (at k) (length m) ≡ true) = both _ _ named in
      let begins : at k < length m = ltb-true (at k) (length m) parts.1 in
      let fits : at k + n ≤ length m = not_over (there k) (length m) (at k + n) named (fits_at k less) in
      let size : length s ≡ max n 1 = length-take-le (max n 1) (drop (at k) m) (omega (arith, length-drop (at k) m)) in
      let zero_there : at k + 0 ≡ at k = omega arith in
      let first : slice_index s 0 ≡ n = get_or-take (max n 1) (drop (at k) m) 0 0 (omega arith) ∙ get_or-drop (at k) m 0 0 ∙ ap (slice_index m) zero_there in
      record { some = omega (arith, size); whole = size ∙ ap (λ (x : ℕ). max x 1) (sym first) }

  stands_there : (k : ℕ) → k < 8 → there k ≡ true → Stands k
  stands_there k less named =
      let s : List ℕ = slot_at m (at k) in
      let of_slot = slot_there k less named in
      let n : ℕ = length_as c k s in
      let f : List ℕ = fitted c k s in
      let w : List ℕ = address_as c k s in
      let is : its k ≡ w = ap (λ (b : Bool). if b then w else []) named in
      let spans : length w ≡ rounded_to c.to_word n = length-address_as c k s word of_slot.some in
      let holds : max n 1 ≤ rounded_to c.to_word n = rounded_holds c.to_word n word in
      let some : 1 ≤ length w = omega arith in
      let pad : List ℕ = replicate (rounded_to c.to_word (slice_index f 0) - length f) 0 in
      let long : length f ≡ max n 1 = length-fitted c k s of_slot.some in
      let cut = parted k less in
      let front : length (head ++ bytes k) ≡ spot k = length-append head (bytes k) in
      let new_is : new ≡ (head ++ bytes k) ++ (w ++ cut.0) = cut.1 ∙ ap (λ (xs : List ℕ). (head ++ bytes k) ++ (xs ++ cut.0)) is in
      let dropped : drop (spot k) new ≡ w ++ cut.0 = ap (drop (spot k)) new_is ∙ drop_at (head ++ bytes k) (w ++ cut.0) (spot k) front in
      let total : length new ≡ spot k + (length w + length cut.0) =
      ap length new_is ∙ length-append (head ++ bytes k) (w ++ cut.0) ∙ omega (arith, front, length-append w cut.0) in
      let spot_zero : spot k + 0 ≡ spot k = omega arith in
      let byte : slice_index new (spot k) ≡ n =
      ap (slice_index new) (sym spot_zero) ∙ sym (get_or-drop (spot k) new 0 0) ∙ ap (λ (xs : List ℕ). slice_index xs 0) dropped
      ∙ get_or_append_left w cut.0 0 0 (omega arith) ∙ get_or_append_left f pad 0 0 (omega arith) ∙ first-fitted c k s in
      let before : nat_lt (spot k) (length new) ≡ true = lt-ltb (spot k) (length new) (omega arith) in
      let here : is_there_at new bits k (spot k) ≡ true = rw (bit_there k less, named, before) refl in
      let count : max (slice_index new (spot k)) 1 ≡ length f = ap (λ (x : ℕ). max x 1) byte ∙ sym long in
      let within : nat_lt (length new) (spot k + slice_index new (spot k)) ≡ false = le-ltb (length new) (spot k + slice_index new (spot k)) (omega arith) in
      record {
        same = here ∙ sym named;
        takes = rw named (ap (λ (x : ℕ). rounded_to x (slice_index new (spot k))) joined ∙ ap (rounded_to c.to_word) byte ∙ sym spans);
        slot = λ _. ap (λ (x : ℕ). take x (drop (spot k) new)) count ∙ ap (take (length f)) (dropped ∙ append_assoc f pad cut.0)
            ∙ take_at f (pad ++ cut.0) (length f) refl;
        whole = λ _. of_slot.whole;
        inside = ap (λ (b : Bool). is_there_at new bits k (spot k) && b) within ∙ none (is_there_at new bits k (spot k));
      }

  stands_by : (k : ℕ) → k < 8 → (b : Bool) → there k ≡ b → Stands k
  stands_by k less true h = stands_there k less h
  stands_by k less false h = stands_absent k less h

  stands : (k : ℕ) → k < 8 → Stands k
  stands k less = stands_by k less (there k) refl

  -- ---- all of them

  spots : (k : ℕ) → k ≤ 8 → offset_before d new bits (length head) k ≡ spot k
  spots zero less = first_spot c d m addrs start new bits (length head)
  spots (suc k) less =
      let e : suc k ≡ k + 1 = omega arith in
      let here = spots k (omega arith) in
      let s = stands k (omega arith) in
      let next = next_offset d new bits (length head) k (spot k) (sym here) in
      let length_next : length (bytes (suc k)) ≡ length (bytes k) + length (its k) =
      ap (λ (n : ℕ). length (bytes n)) e ∙ ap length (next_bytes c m addrs start k (at k) refl (address_as c)) ∙ length-append (bytes k) (its k) in
      ap (offset_before d new bits (length head)) e ∙ next
      ∙ ap (λ (b : Bool). spot k + (if b then rounded_to d.from_word (slice_index new (spot k)) else 0)) s.same
      ∙ ap (λ (n : ℕ). spot k + n) s.takes
      ∙ omega (arith, length_next)

  pub room_on : (k : ℕ) → k ≤ 8 → has_room_before d new bits (length head) k ≡ true
  room_on zero less = first_room d new bits (length head)
  room_on (suc k) less =
      let e : suc k ≡ k + 1 = omega arith in
      let s = stands k (omega arith) in
      ap (has_room_before d new bits (length head)) e
      ∙ still_room d new bits (length head) k (spot k) (sym (spots k (omega arith))) (room_on k (omega arith)) s.inside

  pub addrs_on : (k : ℕ) → k ≤ 8 → addrs_before d new bits (length head) k ≡ addrs_before c m addrs start k
  addrs_on zero less = first_same d new bits (length head) c m addrs start
  addrs_on (suc k) less =
      let e : suc k ≡ k + 1 = omega arith in
      let s = stands k (omega arith) in
      let before = addrs_on k (omega arith) in
      ap (addrs_before d new bits (length head)) e
      ∙ next_addrs d new bits (length head) k (spot k) (sym (spots k (omega arith)))
      ∙ ap (λ (b : Bool). addrs_before d new bits (length head) k + (if b then 2 ^ k else 0)) s.same
      ∙ ap (λ (n : ℕ). n + (if there k then 2 ^ k else 0)) before
      ∙ sym (next_addrs c m addrs start k (at k) refl) ∙ ap (addrs_before c m addrs start) (sym e)

  -- the bytes of each are what the second change makes of what the first made
  pub bytes_on : (made : ℕ → List ℕ → List ℕ) → ((k : ℕ) (s : List ℕ) → IsWhole s → address_as d k (fitted c k s) ≡ made k s) → (k : ℕ) → k ≤ 8 → bytes_before d new bits (length head) k ≡ bytes_by made c m addrs start k
  bytes_on made same zero less = first_bytes (address_as d) made d new bits (length head) c m addrs start
  bytes_on made same (suc k) less =
      let e : suc k ≡ k + 1 = omega arith in
      let s = stands k (omega arith) in
      let one : (there k ≡ true) → address_as d k (slot_at new (spot k)) ≡ made k (slot_at m (at k)) =
      λ named. ap (address_as d k) (s.slot named) ∙ same k (slot_at m (at k)) (s.whole named) in
      ap (bytes_before d new bits (length head)) e
      ∙ next_bytes d new bits (length head) k (spot k) (sym (spots k (omega arith))) (address_as d)
      ∙ ap (λ (b : Bool). bytes_before d new bits (length head) k ++ (if b then address_as d k (slot_at new (spot k)) else [])) s.same
      ∙ ap (λ (xs : List ℕ). bytes_before d new bits (length head) k ++ xs) (either_address (there k) (address_as d k (slot_at new (spot k))) (made k (slot_at m (at k))) one)
      ∙ ap (λ (xs : List ℕ). xs ++ (if there k then made k (slot_at m (at k)) else [])) (bytes_on made same k (omega arith))
      ∙ sym (next_bytes c m addrs start k (at k) refl made) ∙ ap (bytes_by made c m addrs start) (sym e)

  -- none is too long where each stays one that isn't
  pub fit_on : ((k : ℕ) (s : List ℕ) → IsWhole s → fits c k s ≡ true → fits d k (fitted c k s) ≡ true) → (k : ℕ) → k ≤ 8 → fit_before c m addrs start k ≡ true → fit_before d new bits (length head) k ≡ true
  fit_on same zero less h = first_fit d new bits (length head)
  fit_on same (suc k) less h =
      let e : suc k ≡ k + 1 = omega arith in
      let s = stands k (omega arith) in
      let its_own : Bool = if there k then fits c k (slot_at m (at k)) else true in
      let parts : (fit_before c m addrs start k ≡ true) × (its_own ≡ true) =
      both _ _ (sym (ap (fit_before c m addrs start) e ∙ next_fit c m addrs start k (at k) refl) ∙ h) in
      let one : there k ≡ true → fits c k (slot_at m (at k)) ≡ true → fits d k (slot_at new (spot k)) ≡ true =
      λ named fit. ap (fits d k) (s.slot named) ∙ same k (slot_at m (at k)) (s.whole named) fit in
      let last : (if there k then fits d k (slot_at new (spot k)) else true) ≡ true =
      either_fit (there k) (fits c k (slot_at m (at k))) (fits d k (slot_at new (spot k))) one parts.1 in
      ap (fit_before d new bits (length head)) e
      ∙ next_fit d new bits (length head) k (spot k) (sym (spots k (omega arith)))
      ∙ ap (λ (b : Bool). b && (if is_there_at new bits k (spot k) then fits d k (slot_at new (spot k)) else true)) (fit_on same k (omega arith) parts.0)
      ∙ ap (λ (b : Bool). if b then fits d k (slot_at new (spot k)) else true) s.same
      ∙ last
