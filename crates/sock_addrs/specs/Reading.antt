-- How sockaddrs are read: as relations on all their bytes, which say what they are read as, or for which fault they
-- are refused; and computed, by the first fault that holds. Reading is lenient: what stands behind an address, its
-- port and a mask's family are not looked at.
use Rattle.std.specs.Prelude.{◌≡◌, ◌≢◌, ℕ, ◌<◌, ◌≤◌, ◌^◌, ◌⊎◌, ◌==◌, ◌||◌, nat_lt, not, Bool, List, [], ◌∷◌, ◌++◌, length, take, drop, slice_index, Option, Some, None, Result, Ok, Err, if◌then◌else◌}
use Rattle.std.specs.Int.{w32, from_be_bytes, IsOutOfRange}
use Rattle.std.specs.List.{find, range_with_len}
use Rattle.std.specs.Option.{ok_or}
use Rattle.sock_addrs.specs.Link.{IsLinkSockaddr}
use Rattle.sock_addrs.specs.Rules.{first_fault, rule, unless_fault}
use Rattle.sock_addrs.specs.Sockaddrs.{family, inet_sockaddr, mask_number, mask_sockaddr}
use Rattle.sock_addrs.specs.declared.families.TheConstants.{AF_INET, AF_LINK}
use Rattle.sock_addrs.specs.declared.bad_addr.BadAddr.{BadAddr}
use Rattle.sock_addrs.specs.declared.bad_addr.BadAddr.TheVariants as bad
use Rattle.sock_addrs.specs.declared.gate.Gate.{Gate}
use Rattle.sock_addrs.specs.declared.gate.Gate.TheVariants as gate

-- how long a sockaddr says that it is
abbrev pub length_byte : List ℕ → ℕ
length_byte sockaddr = slice_index sockaddr 0

-- all the bytes are there that the length byte counts, and that byte itself
pub record IsWhole (sockaddr : List ℕ) : Type 0 where
  pub some : 0 < length sockaddr
  pub all : length_byte sockaddr ≤ length sockaddr

-- there is no byte, or there are fewer than the length byte counts
abbrev pub IsShort : List ℕ → Type 0
IsShort sockaddr = (length sockaddr ≡ 0) ⊎ (length sockaddr < length_byte sockaddr)

-- the number of an IPv4 address: bytes 4 to 7
abbrev pub number_of_inet : List ℕ → ℕ
number_of_inet sockaddr = from_be_bytes w32 (drop 4 (take 8 sockaddr))

-- the sockaddr begins with this IPv4 address
pub record IsInet (sockaddr : List ℕ) (address : ℕ) : Type 0 where
  pub whole : IsWhole sockaddr
  pub family : family sockaddr ≡ AF_INET
  pub least : 8 ≤ length_byte sockaddr
  pub most : length_byte sockaddr ≤ 16
  pub number : number_of_inet sockaddr ≡ address

-- the sockaddr begins with this link-layer address: all the bytes that the length byte counts
pub record IsLink (sockaddr link : List ℕ) : Type 0 where
  pub whole : IsWhole sockaddr
  pub family : family sockaddr ≡ AF_LINK
  pub least : 8 ≤ length_byte sockaddr
  pub most : length_byte sockaddr ≤ 32
  pub bytes : take (length_byte sockaddr) sockaddr ≡ link

-- the number of a mask: bytes 4 to 7, of which those that the length byte doesn't count are zero
abbrev pub number_of_mask : List ℕ → ℕ
number_of_mask sockaddr = from_be_bytes w32 (drop 4 (take (length_byte sockaddr) sockaddr))

-- the sockaddr begins with the mask of so many bits
pub record IsMask (sockaddr : List ℕ) (bits : ℕ) : Type 0 where
  pub whole : IsWhole sockaddr
  pub most : length_byte sockaddr ≤ 16
  pub fits : bits ≤ 32
  pub ones_first : number_of_mask sockaddr ≡ mask_number bits

-- reading an IPv4 address
abbrev pub ReadsInet : List ℕ → Result ℕ BadAddr → Type 0
ReadsInet sockaddr (Ok address) = IsInet sockaddr address
ReadsInet sockaddr (Err bad.Short) = IsShort sockaddr
ReadsInet sockaddr (Err bad.Family) = IsWhole sockaddr × (family sockaddr ≢ AF_INET)
ReadsInet sockaddr (Err bad.Length) = IsWhole sockaddr × (family sockaddr ≡ AF_INET)
    × IsOutOfRange 8 16 (length_byte sockaddr)
ReadsInet sockaddr (Err bad.NotContiguous) = ⊥

-- the length byte is none that an address of this family has
abbrev pub HasBadLength : List ℕ → Type 0
HasBadLength sockaddr = ((family sockaddr ≡ AF_INET) × IsOutOfRange 8 16 (length_byte sockaddr))
    ⊎ ((family sockaddr ≡ AF_LINK) × IsOutOfRange 8 32 (length_byte sockaddr))

-- reading a gateway, or the address that names an interface
abbrev pub ReadsGate : List ℕ → Result Gate BadAddr → Type 0
ReadsGate sockaddr (Ok (gate.Inet address)) = IsInet sockaddr address
ReadsGate sockaddr (Ok (gate.Link link)) = IsLink sockaddr link
ReadsGate sockaddr (Err bad.Short) = IsShort sockaddr
ReadsGate sockaddr (Err bad.Family) = IsWhole sockaddr × (family sockaddr ≢ AF_INET) × (family sockaddr ≢ AF_LINK)
ReadsGate sockaddr (Err bad.Length) = IsWhole sockaddr × HasBadLength sockaddr
ReadsGate sockaddr (Err bad.NotContiguous) = ⊥

-- reading a mask as the number of its bits
abbrev pub ReadsMask : List ℕ → Result ℕ BadAddr → Type 0
ReadsMask sockaddr (Ok bits) = IsMask sockaddr bits
ReadsMask sockaddr (Err bad.Short) = IsShort sockaddr
ReadsMask sockaddr (Err bad.Family) = ⊥
ReadsMask sockaddr (Err bad.Length) = IsWhole sockaddr × (16 < length_byte sockaddr)
ReadsMask sockaddr (Err bad.NotContiguous) = IsWhole sockaddr × (length_byte sockaddr ≤ 16)
    × ((bits : ℕ) → bits ≤ 32 → number_of_mask sockaddr ≢ mask_number bits)

-- ---- the same, computed: the first fault that holds, or the address

abbrev pub is_short : List ℕ → Bool
is_short sockaddr = length sockaddr == 0 || nat_lt (length sockaddr) (length_byte sockaddr)

-- the length byte is none from the least to the most
abbrev pub has_length_outside : ℕ → ℕ → List ℕ → Bool
has_length_outside least most sockaddr = nat_lt (length_byte sockaddr) least || nat_lt most (length_byte sockaddr)

abbrev pub read_inet_of : List ℕ → Result ℕ BadAddr
read_inet_of sockaddr = unless_fault (first_fault
    (rule (is_short sockaddr) bad.Short
    ∷ rule (not (family sockaddr == AF_INET)) bad.Family
    ∷ rule (has_length_outside 8 16 sockaddr) bad.Length
    ∷ [])) (number_of_inet sockaddr)

-- an IPv4 address or, of the family of link layers, all the bytes that the length byte counts
abbrev pub gate_at_front : List ℕ → Gate
gate_at_front sockaddr =
    if family sockaddr == AF_INET then gate.Inet (number_of_inet sockaddr)
    else gate.Link (take (length_byte sockaddr) sockaddr)

abbrev pub read_gate_of : List ℕ → Result Gate BadAddr
read_gate_of sockaddr = unless_fault (first_fault
    (rule (is_short sockaddr) bad.Short
    ∷ rule (not (family sockaddr == AF_INET || family sockaddr == AF_LINK)) bad.Family
    ∷ rule (has_length_outside 8 (if family sockaddr == AF_INET then 16 else 32) sockaddr) bad.Length
    ∷ [])) (gate_at_front sockaddr)

-- how many bits the mask of this number has
abbrev pub prefix_of : ℕ → Option ℕ
prefix_of number = find (λ p. mask_number p == number) (range_with_len 0 33)

abbrev pub mask_unless : Option BadAddr → Option ℕ → Result ℕ BadAddr
mask_unless None bits = ok_or bits bad.NotContiguous
mask_unless (Some fault) bits = Err fault

abbrev pub read_mask_of : List ℕ → Result ℕ BadAddr
read_mask_of sockaddr = mask_unless (first_fault
    (rule (is_short sockaddr) bad.Short
    ∷ rule (nat_lt 16 (length_byte sockaddr)) bad.Length
    ∷ [])) (prefix_of (number_of_mask sockaddr))

-- what is computed is how the sockaddr is read
abbrev pub ComputedIsRead : {A : Type 0} → (List ℕ → Result A BadAddr → Type 0) → (List ℕ → Result A BadAddr) → Type 0
ComputedIsRead Reads read = (sockaddr : List ℕ) → Reads sockaddr (read sockaddr)

-- each sockaddr is read, and in one way alone
abbrev pub IsReadOnce : {A : Type 0} → (List ℕ → Result A BadAddr → Type 0) → Type 0
IsReadOnce {A} Reads = (sockaddr : List ℕ)
    → (result : Result A BadAddr) × Reads sockaddr result
    × ((other : Result A BadAddr) → Reads sockaddr other → other ≡ result)

-- what is written of an IPv4 address is read again, whatever follows it
abbrev pub InetSockaddrIsRead : Type 0
InetSockaddrIsRead = (address : ℕ) → address < 2 ^ 32 → (rest : List ℕ) → IsInet (inet_sockaddr address ++ rest) address

-- a link-layer address is read again as it is, whatever follows it
abbrev pub LinkSockaddrIsRead : Type 0
LinkSockaddrIsRead = (link : List ℕ) → IsLinkSockaddr link → (rest : List ℕ) → IsLink (link ++ rest) link

-- what is read as a link-layer address is one
abbrev pub ReadLinkIsLinkSockaddr : Type 0
ReadLinkIsLinkSockaddr = (sockaddr link : List ℕ) → IsLink sockaddr link → IsLinkSockaddr link

-- what is written of a mask is read again, whatever follows it
abbrev pub MaskSockaddrIsRead : Type 0
MaskSockaddrIsRead = (bits : ℕ) → bits ≤ 32 → (rest : List ℕ) → IsMask (mask_sockaddr bits ++ rest) bits
