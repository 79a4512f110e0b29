-- The addresses behind a header, one after the other. Of the bits of the addrs field, the first eight name an address
-- each.
use Rattle.std.specs.Prelude.{ℕ, ◌+◌, ◌^◌, zero, suc, max, nat_lt, ◌==◌, Bool, true, ◌&&◌, not, if◌then◌else◌, List, [], ◌++◌, length, take, drop, slice_index}
use Rattle.std.specs.Int.{bit_at}
use Rattle.route_layouts.specs.Addresses.{address_as, fits, rounded_to}
use Rattle.route_layouts.specs.declared.change.Change.{Change}

-- the address of this bit is named, and the message doesn't end before the place where it would begin
abbrev pub is_there_at : List ℕ → ℕ → ℕ → ℕ → Bool
is_there_at m addrs k at = bit_at addrs k == 1 && nat_lt at (length m)

-- its length byte counts bytes past the message's end
abbrev pub overruns_at : List ℕ → ℕ → ℕ → ℕ → Bool
overruns_at m addrs k at = is_there_at m addrs k at && nat_lt (length m) (at + slice_index m at)

-- its bytes: as many as its length byte says, and at least that byte
abbrev pub slot_at : List ℕ → ℕ → List ℕ
slot_at m at = take (max (slice_index m at) 1) (drop at m)

-- where an address would begin: behind the header of so many bytes and all named addresses before it that are there
unfoldable pub offset_before : Change → List ℕ → ℕ → ℕ → ℕ → ℕ
offset_before c m addrs start zero = start
offset_before c m addrs start (suc k) =
    let at = offset_before c m addrs start k in
    at + (if is_there_at m addrs k at then rounded_to c.from_word (slice_index m at) else 0)

-- the addresses before it, one after the other, each as this makes it
unfoldable pub bytes_by : (ℕ → List ℕ → List ℕ) → Change → List ℕ → ℕ → ℕ → ℕ → List ℕ
bytes_by made c m addrs start zero = []
bytes_by made c m addrs start (suc k) =
    let at = offset_before c m addrs start k in
    bytes_by made c m addrs start k ++ (if is_there_at m addrs k at then made k (slot_at m at) else [])

-- as the other layout has them
abbrev pub bytes_before : Change → List ℕ → ℕ → ℕ → ℕ → List ℕ
bytes_before c m addrs start k = bytes_by (address_as c) c m addrs start k

-- the bits of those that are there
unfoldable pub addrs_before : Change → List ℕ → ℕ → ℕ → ℕ → ℕ
addrs_before c m addrs start zero = 0
addrs_before c m addrs start (suc k) =
    addrs_before c m addrs start k + (if is_there_at m addrs k (offset_before c m addrs start k) then 2 ^ k else 0)

-- none of them overruns
unfoldable pub has_room_before : Change → List ℕ → ℕ → ℕ → ℕ → Bool
has_room_before c m addrs start zero = true
has_room_before c m addrs start (suc k) =
    has_room_before c m addrs start k && not (overruns_at m addrs k (offset_before c m addrs start k))

-- each of those that are there fits the other layout
unfoldable pub fit_before : Change → List ℕ → ℕ → ℕ → ℕ → Bool
fit_before c m addrs start zero = true
fit_before c m addrs start (suc k) =
    let at = offset_before c m addrs start k in
    fit_before c m addrs start k && (if is_there_at m addrs k at then fits c k (slot_at m at) else true)
