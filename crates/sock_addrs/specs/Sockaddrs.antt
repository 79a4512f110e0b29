-- Addresses as messages write them (sockaddrs): the bytes of `struct sockaddr_in`, and of a mask that is cut behind
-- its last bit.
use Rattle.std.specs.Prelude.{◌≡◌, ℕ, ◌+◌, ◌-◌, ◌/◌, ◌%◌, ◌^◌, ◌<◌, ◌≤◌, List, [], ◌∷◌, ◌++◌, replicate, slice_index, cond, nat_le, nat_lt, if◌then◌else◌, zero, suc}
use Rattle.std.specs.Int.{w32, to_be_bytes, div_ceil}
use Rattle.sock_addrs.specs.declared.families.TheConstants.{AF_INET}

-- a sockaddr's family: byte 1, or 0 where the length byte says that there is none (where the bytes end before it,
-- byte 1 is 0 too)
abbrev pub family : List ℕ → ℕ
family sockaddr = cond (nat_le (slice_index sockaddr 0) 1) 0 (slice_index sockaddr 1)

-- an IPv4 address: the length 16, the family 2, port 0, the four bytes of the address, the highest first, and eight
-- zeros
abbrev pub inet_sockaddr : ℕ → List ℕ
inet_sockaddr n = 16 ∷ AF_INET ∷ 0 ∷ 0 ∷ to_be_bytes w32 n ++ replicate 8 0

-- the mask of p bits as a number: of 32 bits the first p are ones and the rest zeros
abbrev pub mask_number : ℕ → ℕ
mask_number p = 2 ^ 32 - 2 ^ (32 - p)

-- a mask of p bits: the length counts the bytes to the last that has a one, and without any it is 0; then no family,
-- and the mask's bytes, the highest first
abbrev pub mask_sockaddr : ℕ → List ℕ
mask_sockaddr zero = 0 ∷ 0 ∷ 0 ∷ 0 ∷ []
mask_sockaddr (suc p) = (4 + div_ceil (suc p) 8) ∷ 0 ∷ 0 ∷ 0 ∷ to_be_bytes w32 (mask_number (suc p))

-- from the highest on, the bits of a mask's number are ones as far as the mask goes, and then zeros
abbrev pub MaskIsOnesThenZeros : Type 0
MaskIsOnesThenZeros = (p i : ℕ) → p ≤ 32 → i < 32 → mask_number p / 2 ^ (31 - i) % 2 ≡ (if nat_lt i p then 1 else 0)

-- two masks with one sockaddr are one
abbrev pub MaskSockaddrsDiffer : Type 0
MaskSockaddrsDiffer = (p q : ℕ) → p ≤ 32 → q ≤ 32 → mask_sockaddr p ≡ mask_sockaddr q → p ≡ q
