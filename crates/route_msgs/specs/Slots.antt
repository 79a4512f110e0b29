-- Where a message's addresses stand. Of the bits of its addrs field, the first eight name an address each.
use Rattle.std.specs.Prelude.{◌≡◌, ℕ, ◌+◌, ◌≤◌, zero, suc, max, nat_lt, get_or, ⊤, ◌==◌, Bool, true, false, ◌&&◌, ◌||◌, not, if◌then◌else◌, List, [], ◌∷◌, length, take, drop, slice_index, Option, Some, None, Result, Ok, Err}
use Rattle.std.specs.Int.{bit_at}
use Rattle.sock_addrs.specs.Rounding.{rounded}
use Rattle.route_msgs.specs.Layout.{number_at}
use Rattle.route_msgs.specs.Headers.{header_in}
use Rattle.route_msgs.specs.declared.kinds.TheConstants.{RTM_VERSION}
use Rattle.route_msgs.specs.declared.parsed.Slot.{Slot}
use Rattle.route_msgs.specs.declared.parsed.Parsed.{Parsed}
use Rattle.route_msgs.specs.declared.parsed.MsgErr.{MsgErr}
use Rattle.route_msgs.specs.declared.parsed.MsgErr.TheVariants as fault

-- the message names the address of this bit
abbrev pub is_named : List ℕ → ℕ → Bool
is_named m k = bit_at (number_at 12 4 m) k == 1

-- it is named, and the message doesn't end before the place where it would begin
abbrev pub is_there_at : List ℕ → ℕ → ℕ → Bool
is_there_at m k at = is_named m k && nat_lt at (length m)

-- the bytes that it takes there
abbrev pub room_at : List ℕ → ℕ → ℕ → ℕ
room_at m k at = if is_there_at m k at then rounded (slice_index m at) else 0

-- its length byte counts bytes past the message's end
abbrev pub overruns_at : List ℕ → ℕ → ℕ → Bool
overruns_at m k at = is_there_at m k at && nat_lt (length m) (at + slice_index m at)

-- its slot: as many bytes as its length byte says, and at least that byte
abbrev pub slot_at : List ℕ → ℕ → ℕ → Option Slot
slot_at m k at = if is_there_at m k at then Some (record { start = at; len = max 1 (slice_index m at) }) else None

-- where an address would begin: behind the header and all named addresses before it that are there
unfoldable pub offset_of : List ℕ → ℕ → ℕ
offset_of m zero = 76
offset_of m (suc k) = offset_of m k + room_at m k (offset_of m k)

abbrev pub overruns : List ℕ → ℕ → Bool
overruns m k = overruns_at m k (offset_of m k)

abbrev pub slot_in : List ℕ → ℕ → Option Slot
slot_in m k = slot_at m k (offset_of m k)

-- one of the first addresses overruns
abbrev pub overruns_below : List ℕ → ℕ → Bool
overruns_below m zero = false
overruns_below m (suc k) = overruns_below m k || overruns m k

-- the slots of all eight
abbrev pub slots_in : List ℕ → List (Option Slot)
slots_in m =
    slot_in m 0 ∷ slot_in m 1 ∷ slot_in m 2 ∷ slot_in m 3 ∷ slot_in m 4 ∷ slot_in m 5 ∷ slot_in m 6 ∷ slot_in m 7 ∷ []

-- the bytes of a slot
abbrev pub slot_bytes : Slot → List ℕ → List ℕ
slot_bytes s m = take s.len (drop s.start m)

-- the bytes of the address that a slot has, where there is one
abbrev pub address_at : Option Slot → List ℕ → Option (List ℕ)
address_at None m = None
address_at (Some s) m = Some (slot_bytes s m)

-- the bytes of the message's address of this bit, without padding
abbrev pub address_in : List ℕ → ℕ → Option (List ℕ)
address_in m k = address_at (slot_in m k) m

-- the message has a whole header, which says the message's own length
abbrev pub has_length : List ℕ → Bool
has_length m = not (nat_lt (length m) 76) && number_at 0 2 m == length m

abbrev pub has_version : List ℕ → Bool
has_version m = number_at 2 1 m == RTM_VERSION

-- none of its addresses passes its end
abbrev pub has_room : List ℕ → Bool
has_room m = not (overruns_below m 8)

-- what reading a message answers: its fields and the places of its addresses, or its first fault
abbrev pub ReadsMessage : List ℕ → Result Parsed MsgErr → Type 0
ReadsMessage m (Ok p) =
    (has_length m ≡ true) × (has_version m ≡ true) × (has_room m ≡ true) × (p.header ≡ header_in m)
    × (p.slots ≡ slots_in m)
ReadsMessage m (Err fault.Length) = has_length m ≡ false
ReadsMessage m (Err fault.Version) = (has_length m ≡ true) × (has_version m ≡ false)
ReadsMessage m (Err fault.Overrun) = (has_length m ≡ true) × (has_version m ≡ true) × (has_room m ≡ false)

-- each address that is there has at least one byte, behind the header, and ends within so many bytes
abbrev pub IsWithin : ℕ → Option Slot → Type 0
IsWithin size None = ⊤
IsWithin size (Some s) = (76 ≤ s.start) × (1 ≤ s.len) × (s.start + s.len ≤ size)

abbrev pub SlotsAreWithin : ℕ → List (Option Slot) → Type 0
SlotsAreWithin size slots = (k : ℕ) → IsWithin size (get_or slots k None)
