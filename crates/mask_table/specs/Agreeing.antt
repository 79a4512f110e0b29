-- Which addresses a route is for. An address is a number below 2^32, and a rank is 0 to 32, the length of a mask, or
-- 33 where there is none.
use Rattle.std.specs.Prelude.{◌≡◌, ℕ, ◌-◌, ◌*◌, ◌/◌, ◌%◌, ◌^◌, ◌<◌, ◌≤◌, ◌⊎◌, ◌↔◌, Bool, ◌==◌, IsTrue}

-- the first bits of an address, as many as the rank says, as a number; all of it at 32 and 33
abbrev pub front : ℕ → ℕ → ℕ
front rank address = address / 2 ^ (32 - rank)

-- the address agrees with the key at this rank
abbrev pub agrees : ℕ → ℕ → ℕ → Bool
agrees rank key address = front rank key == front rank address

-- the address with all bits past the rank cleared
abbrev pub masked : ℕ → ℕ → ℕ
masked rank address = front rank address * 2 ^ (32 - rank)

-- bit i of an address, counted from 0 at the highest
abbrev pub bit : ℕ → ℕ → ℕ
bit i address = address / 2 ^ (31 - i) % 2

-- the first bits of both are the same, so many of them
abbrev pub HaveSameBits : ℕ → ℕ → ℕ → Type 0
HaveSameBits many a b = (i : ℕ) → i < many → bit i a ≡ bit i b

-- agreeing in words: without a mask the address is the key, and under a mask it has the key's first bits, as many as
-- the mask is long
abbrev pub AgreesInWords : Type 0
AgreesInWords = (rank key address : ℕ) → rank ≤ 33 → key < 2 ^ 32 → address < 2 ^ 32
    → IsTrue (agrees rank key address) ↔ (((rank ≡ 33) × (key ≡ address))
    ⊎ ((rank ≤ 32) × HaveSameBits rank key address))

-- agreeing is being equal once both are masked
abbrev pub AgreesWhereMaskedEqual : Type 0
AgreesWhereMaskedEqual = (rank key address : ℕ)
    → IsTrue (agrees rank key address) ↔ (masked rank key ≡ masked rank address)

-- what agrees at a rank agrees at each smaller one
abbrev pub AgreesAtSmallerRanks : Type 0
AgreesAtSmallerRanks = (smaller rank key address : ℕ) → smaller ≤ rank → IsTrue (agrees rank key address)
    → IsTrue (agrees smaller key address)

-- a masked address agrees with the address that it was made of
abbrev pub MaskedAgrees : Type 0
MaskedAgrees = (rank address : ℕ) → IsTrue (agrees rank (masked rank address) address)

-- masking again changes nothing
abbrev pub MaskedTwiceIsOnce : Type 0
MaskedTwiceIsOnce = (rank address : ℕ) → masked rank (masked rank address) ≡ masked rank address

-- masking keeps the bits before the rank and clears those past it
abbrev pub MaskedBits : Type 0
MaskedBits = (rank address i : ℕ) → i < 32
    → ((i < rank → bit i (masked rank address) ≡ bit i address) × (rank ≤ i → bit i (masked rank address) ≡ 0))
