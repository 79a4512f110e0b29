-- The addresses of a message whose slots were read.
use Rattle.std.proofs.Common.{◌≡◌, ◌<◌, zero, suc, ℕ, List, get_or, refl, ap, ◌∙◌, arith}
use Rattle.std.specs.Prelude.{Option, None}
use Rattle.route_msgs.specs.Slots.{address_at, address_in, slot_in, slots_in}
use Rattle.route_msgs.specs.declared.parsed.Slot.{Slot}

slot_there : (m : List ℕ) (k : ℕ) → k < 8 → get_or (slots_in m) k None ≡ slot_in m k
slot_there m zero less = refl
slot_there m (suc zero) less = refl
slot_there m (suc (suc zero)) less = refl
slot_there m (suc (suc (suc zero))) less = refl
slot_there m (suc (suc (suc (suc zero)))) less = refl
slot_there m (suc (suc (suc (suc (suc zero))))) less = refl
slot_there m (suc (suc (suc (suc (suc (suc zero)))))) less = refl
slot_there m (suc (suc (suc (suc (suc (suc (suc zero))))))) less = refl
slot_there m (suc (suc (suc (suc (suc (suc (suc (suc k)))))))) less = absurd (omega (arith, less))

-- the address of a slot that was read is the message's
pub address_there : (m : List ℕ) (slots : List (Option Slot)) (k : ℕ) → k < 8 → slots ≡ slots_in m
    → address_at (get_or slots k None) m ≡ address_in m k
address_there m slots k less all =
    ap (λ (s : List (Option Slot)). address_at (get_or s k None) m) all
    ∙ ap (λ (s : Option Slot). address_at s m) (slot_there m k less)
