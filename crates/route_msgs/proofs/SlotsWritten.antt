-- Where the addresses of a message stand that was written.
use Rattle.std.proofs.Common.{◌≡◌, ℕ, zero, suc, ◌+◌, ◌<◌, ◌≤◌, true, false, ◌||◌, not, nat_lt, max, List, [], ◌∷◌, ◌++◌, length, take, get_or, refl, sym, ap, ◌∙◌, arith, length-append, append-nil, append_assoc, take-append-drop, drop, drop_at, take_at, drop-cons, get_or-append-add, take-suc, Option, Some, None, is_some}
use Rattle.std.specs.Prelude.{slice_index}
use Rattle.std.specs.List.{flat_map}
use Rattle.std.proofs.lemmas.Bool.{lt-ltb, le-ltb}
use Rattle.std.proofs.lemmas.Grind.{flat_map-append}
use Rattle.std.proofs.lemmas.List.Concat.{get_or-flat_map}
use Rattle.std.proofs.lemmas.List.Folds.{length-flat_map-take}
use Rattle.sock_addrs.specs.Rounding.{rounded}
use Rattle.route_msgs.specs.Slots.{is_named, is_there_at, room_at, overruns_at, slot_at, offset_of, overruns, overruns_below, slot_in, slots_in, has_room}
use Rattle.route_msgs.specs.Sockaddr.{IsSockaddr}
use Rattle.route_msgs.specs.AddrInfo.{bytes_or_none}
use Rattle.route_msgs.specs.Written.{IsSockaddrOrNone, start_among, slot_of_sockaddr, slot_among}
use Rattle.route_msgs.specs.declared.parsed.Slot.{Slot}

-- a message that is a header and behind it these addresses, which it names
pub record IsJoined (m head : List ℕ) (xs : List (Option (List ℕ))) : Type 0 where
  pub whole : m ≡ head ++ flat_map bytes_or_none xs
  pub header : length head ≡ 76
  pub eight : length xs ≡ 8
  pub names : (k : ℕ) → k < 8 → is_named m k ≡ is_some (get_or xs k None)
  pub addresses : (k : ℕ) → IsSockaddrOrNone (get_or xs k None)

-- the next address begins behind this one
start-next : (xs : List (Option (List ℕ))) (k : ℕ) → k < length xs → start_among xs (suc k) ≡ start_among xs k + length (bytes_or_none (get_or xs k None))
start-next xs k less =
    let front = take k xs in
    let x = get_or xs k None in
    let e : flat_map bytes_or_none (take (suc k) xs) ≡ flat_map bytes_or_none front ++ bytes_or_none x =
    ap (flat_map bytes_or_none) (take-suc xs k None less) ∙ flat_map-append bytes_or_none front (x ∷ []) ∙ ap (λ (ys : List ℕ). flat_map bytes_or_none front ++ ys) (append-nil (bytes_or_none x)) in
    omega (arith, ap length e, length-append (flat_map bytes_or_none front) (bytes_or_none x))

-- what the definitions of slots say of one address
record IsStep (m : List ℕ) (xs : List (Option (List ℕ))) (k at : ℕ) : Type 0 where
  room : room_at m k at ≡ length (bytes_or_none (get_or xs k None))
  slot : slot_at m k at ≡ slot_of_sockaddr at (get_or xs k None)
  fits : overruns_at m k at ≡ false

rounded_bounds : (n : ℕ) → (4 ≤ rounded n) × (n ≤ rounded n)
rounded_bounds n = (omega arith, omega arith)

step_none : (m : List ℕ) (xs : List (Option (List ℕ))) (k at : ℕ) → is_named m k ≡ is_some (get_or xs k None) → get_or xs k None ≡ None → IsStep m xs k at
step_none m xs k at named e =
    let no : is_named m k ≡ false = named ∙ ap is_some e in
    record { room = rw (no, e) refl; slot = rw (no, e) refl; fits = rw no refl }

step_some : (m head : List ℕ) (xs : List (Option (List ℕ))) (k : ℕ) (sockaddr : List ℕ) → IsJoined m head xs → k < 8 → get_or xs k None ≡ Some sockaddr → IsSockaddr sockaddr → IsStep m xs k (start_among xs k)
step_some m head xs k sockaddr h less e is =
    let tb = flat_map bytes_or_none xs in
    let n : ℕ = length (flat_map bytes_or_none (take k xs)) in
    let at : ℕ = start_among xs k in
    let among : k < length xs = omega (arith, h.eight) in
    let its : bytes_or_none (get_or xs k None) ≡ sockaddr = ap bytes_or_none e in
    let size : length m ≡ 76 + length tb = ap length h.whole ∙ length-append head tb ∙ ap (λ (z : ℕ). z + length tb) h.header in
    let inside : at + length sockaddr ≤ length m = omega (arith, length-flat_map-take bytes_or_none xs k None among, ap length its, size) in
    let four : 4 ≤ length sockaddr = omega (arith, is.whole, (rounded_bounds (slice_index sockaddr 0)).0) in
    let some : 0 < length (bytes_or_none (get_or xs k None)) = omega (arith, ap length its, four) in
    let place_is : at ≡ length head + n = omega (arith, h.header) in
    let end : n ≡ n + 0 = omega arith in
    let byte : slice_index m at ≡ slice_index sockaddr 0 =
    ap (λ (ys : List ℕ). slice_index ys at) h.whole
    ∙ ap (λ (z : ℕ). slice_index (head ++ tb) z) place_is
    ∙ get_or-append-add head tb n 0
    ∙ ap (λ (z : ℕ). slice_index tb z) end
    ∙ get_or-flat_map bytes_or_none xs k 0 None 0 among some
    ∙ ap (λ (ys : List ℕ). slice_index ys 0) its in
    let covers : slice_index sockaddr 0 ≤ length sockaddr = omega (arith, is.whole, (rounded_bounds (slice_index sockaddr 0)).1) in
    let named : is_named m k ≡ true = h.names k less ∙ ap is_some e in
    let before : nat_lt at (length m) ≡ true = lt-ltb at (length m) (omega (arith, inside, four)) in
    let there : is_there_at m k at ≡ true = rw (named, before) refl in
    let within : nat_lt (length m) (at + slice_index m at) ≡ false = le-ltb (length m) (at + slice_index m at) (omega (arith, inside, covers, byte)) in
    record {
      room = rw there (ap rounded byte ∙ sym is.whole ∙ sym (ap length its));
      slot = rw (there, e) (ap (λ (b : ℕ). Some (record { start = at; len = max 1 b })) byte);
      fits = rw (there, within) refl;
    }

step : (m head : List ℕ) (xs : List (Option (List ℕ))) (k : ℕ) (t : Option (List ℕ)) → IsJoined m head xs → k < 8 → get_or xs k None ≡ t → IsSockaddrOrNone t → IsStep m xs k (start_among xs k)
step m head xs k None h less e is = step_none m xs k (start_among xs k) (h.names k less) e
step m head xs k (Some sockaddr) h less e is = step_some m head xs k sockaddr h less e is

step_at : (m head : List ℕ) (xs : List (Option (List ℕ))) (k : ℕ) → IsJoined m head xs → k < 8 → IsStep m xs k (start_among xs k)
step_at m head xs k h less = step m head xs k (get_or xs k None) h less refl (h.addresses k)

offset-start : (m head : List ℕ) (xs : List (Option (List ℕ))) (k : ℕ) → IsJoined m head xs → k ≤ 8 → offset_of m k ≡ start_among xs k
unfolding offset_of
offset-start m head xs zero h less = refl
offset-start m head xs (suc k) h less =
    let before : offset_of m k ≡ start_among xs k = offset-start m head xs k h (omega arith) in
    let here : IsStep m xs k (start_among xs k) = step_at m head xs k h (omega arith) in
    ap (λ (at : ℕ). at + room_at m k at) before
    ∙ ap (λ (n : ℕ). start_among xs k + n) here.room
    ∙ sym (start-next xs k (omega (arith, h.eight)))

none_overruns : (m head : List ℕ) (xs : List (Option (List ℕ))) (n : ℕ) → IsJoined m head xs → n ≤ 8 → overruns_below m n ≡ false
none_overruns m head xs zero h less = refl
none_overruns m head xs (suc n) h less =
    ap (λ b. b || overruns m n) (none_overruns m head xs n h (omega arith))
    ∙ ap (overruns_at m n) (offset-start m head xs n h (omega arith))
    ∙ (step_at m head xs n h (omega arith)).fits

pub room_written : (m head : List ℕ) (xs : List (Option (List ℕ))) → IsJoined m head xs → has_room m ≡ true
room_written m head xs h = ap not (none_overruns m head xs 8 h (omega arith))

slot_written : (m head : List ℕ) (xs : List (Option (List ℕ))) (k : ℕ) → IsJoined m head xs → k < 8 → slot_in m k ≡ slot_among xs k
slot_written m head xs k h less = ap (slot_at m k) (offset-start m head xs k h (omega arith)) ∙ (step_at m head xs k h less).slot

eight_same : (f g : ℕ → Option Slot) → ((k : ℕ) → k < 8 → f k ≡ g k)
    → f 0 ∷ f 1 ∷ f 2 ∷ f 3 ∷ f 4 ∷ f 5 ∷ f 6 ∷ f 7 ∷ [] ≡ g 0 ∷ g 1 ∷ g 2 ∷ g 3 ∷ g 4 ∷ g 5 ∷ g 6 ∷ g 7 ∷ []
eight_same f g h =
    rw (h 0 (omega arith), h 1 (omega arith), h 2 (omega arith), h 3 (omega arith), h 4 (omega arith), h 5 (omega arith), h 6 (omega arith), h 7 (omega arith)) refl

pub slots_written : (m head : List ℕ) (xs : List (Option (List ℕ))) → IsJoined m head xs
    → slots_in m ≡ slot_among xs 0 ∷ slot_among xs 1 ∷ slot_among xs 2 ∷ slot_among xs 3 ∷ slot_among xs 4 ∷ slot_among xs 5 ∷ slot_among xs 6 ∷ slot_among xs 7 ∷ []
slots_written m head xs h = eight_same (slot_in m) (slot_among xs) (λ k less. slot_written m head xs k h less)

-- the bytes of an address
pub sockaddr_written : (head : List ℕ) (xs : List (Option (List ℕ))) (k : ℕ) (sockaddr : List ℕ) → length head ≡ 76 → k < length xs → get_or xs k None ≡ Some sockaddr
    → take (length sockaddr) (drop (start_among xs k) (head ++ flat_map bytes_or_none xs)) ≡ sockaddr
sockaddr_written head xs k sockaddr size less e =
    let before : List ℕ = flat_map bytes_or_none (take k xs) in
    let behind : List ℕ = flat_map bytes_or_none (drop (suc k) xs) in
    let its : bytes_or_none (get_or xs k None) ≡ sockaddr = ap bytes_or_none e in
    let split : flat_map bytes_or_none xs ≡ before ++ (sockaddr ++ behind) =
    ap (flat_map bytes_or_none) (sym (take-append-drop k xs) ∙ ap (λ ys. take k xs ++ ys) (drop-cons xs k None less))
    ∙ flat_map-append bytes_or_none (take k xs) (get_or xs k None ∷ drop (suc k) xs)
    ∙ ap (λ (ys : List ℕ). before ++ (ys ++ behind)) its in
    let whole : head ++ flat_map bytes_or_none xs ≡ (head ++ before) ++ (sockaddr ++ behind) = ap (λ (ys : List ℕ). head ++ ys) split ∙ sym (append_assoc head before (sockaddr ++ behind)) in
    let front : length (head ++ before) ≡ start_among xs k = omega (arith, length-append head before, size) in
    ap (λ (ys : List ℕ). take (length sockaddr) (drop (start_among xs k) ys)) whole
    ∙ ap (λ (ys : List ℕ). take (length sockaddr) ys) (drop_at (head ++ before) (sockaddr ++ behind) (start_among xs k) front)
    ∙ take_at sockaddr behind (length sockaddr) refl
