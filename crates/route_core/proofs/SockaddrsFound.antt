-- The addresses that are found in a message whose slots were read.
use Rattle.std.proofs.Common.{Bor, ◌≡◌, ◌<◌, zero, suc, ℕ, Bool, true, false, if◌then◌else◌, List, length, take, drop, max, slice_index, get_or, subst, sym, ap, ◌∙◌, refl, arith}
use Rattle.std.proofs.lemmas.List.{length-take-le, length-drop, get_or-take, get_or-drop}
use Rattle.std.specs.Prelude.{Option, Some, None, IfSome, MatchOption}
use Rattle.sock_addrs.specs.Reading.{IsWhole}
use Rattle.route_msgs.specs.Slots.{IsWithin, SlotsAreWithin, slots_in, address_at, address_in, is_there_at, offset_of, slot_in}
use Rattle.route_msgs.specs.declared.parsed.Slot.{Slot}

slot_there : (m : List ℕ) (k : ℕ) → k < 8 → get_or (slots_in m) k None ≡ slot_in m k
slot_there m zero less = refl
slot_there m (suc zero) less = refl
slot_there m (suc (suc zero)) less = refl
slot_there m (suc (suc (suc zero))) less = refl
slot_there m (suc (suc (suc (suc zero)))) less = refl
slot_there m (suc (suc (suc (suc (suc zero))))) less = refl
slot_there m (suc (suc (suc (suc (suc (suc zero)))))) less = refl
slot_there m (suc (suc (suc (suc (suc (suc (suc zero))))))) less = refl
slot_there m (suc (suc (suc (suc (suc (suc (suc (suc k)))))))) less = absurd (omega (arith, less))

-- the address of a slot that was read is the message's
pub address_there : (m : List ℕ) (slots : List (Option Slot)) (k : ℕ) → k < 8 → slots ≡ slots_in m
    → address_at (get_or slots k None) m ≡ address_in m k
address_there m slots k less all =
    ap (λ (s : List (Option Slot)). address_at (get_or s k None) m) all
    ∙ ap (λ (s : Option Slot). address_at s m) (slot_there m k less)

-- an address that is found, and doesn't pass the message's end, is whole
whole_at : (m t : List ℕ) (at : ℕ) → (there : Bool)
    → (let slot : Option Slot = if there then Some (record { start = at; len = max 1 (slice_index m at) }) else None in
    IsWithin (length m) slot → address_at slot m ≡ Some t → IsWhole t)
whole_at m t at false within found = cc
whole_at m t at true within found =
    let len = max 1 (slice_index m at) in
    let text : take len (drop at m) ≡ t = cc in
    let size : length (take len (drop at m)) ≡ len =
    length-take-le len (drop at m) (rw (length-drop at m) (omega (arith, within.2))) in
    let first : slice_index (take len (drop at m)) 0 ≡ slice_index m at =
    grind (arith, get_or-take len (drop at m) 0 0, get_or-drop at m 0 0) in
    rw (sym text) (record { some = rw size (omega arith); all = rw (size, first) (omega arith) })

address_whole : (m t : List ℕ) (slots : List (Option Slot)) (k : ℕ) → k < 8 → slots ≡ slots_in m
    → SlotsAreWithin (length m) slots → address_in m k ≡ Some t → IsWhole t
address_whole m t slots k less all within found =
    let its_slot : get_or slots k None ≡ slot_in m k =
    ap (λ (s : List (Option Slot)). get_or s k None) all ∙ slot_there m k less in
    let fits : IsWithin (length m) (slot_in m k) =
    subst (λ (s : Option Slot). IsWithin (length m) s) its_slot (within k) in
    whole_at m t (offset_of m k) (is_there_at m k (offset_of m k)) fits found

pub found_whole : (m : List ℕ) (slots : List (Option Slot)) (k : ℕ) (found : Option (Bor (List ℕ)))
    → k < 8 → slots ≡ slots_in m → SlotsAreWithin (length m) slots
    → MatchOption found (address_at (get_or slots k None) m ≡ None)
    (λ t. address_at (get_or slots k None) m ≡ Some t.now)
    → IfSome found (λ t. IsWhole t.now)
found_whole m slots k None less all within is = tt
found_whole m slots k (Some t) less all within is =
    address_whole m t.now slots k less all within (sym (address_there m slots k less all) ∙ is)
