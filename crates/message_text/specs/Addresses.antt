-- The addresses of a message in words, each on a line of its own. An address that has exactly the bytes that are
-- written of an IPv4 address, of a mask or of a link-layer address is shown as that, and any other by its bytes,
-- padding included.
use Rattle.std.specs.Prelude.{ℕ, ◌+◌, ◌==◌, ◌&&◌, ◌||◌, nat_le, nat_lt, not, Bool, true, false, if◌then◌else◌, List, [], ◌∷◌, ◌++◌, length, take, drop, slice_index, codes, decimal, bytes_eq, Option, Some, None, Result, Ok, Err}
use Rattle.std.specs.List.{list_all}
use Rattle.hex.specs.Hex.{encode_lower}
use Rattle.sock_addrs.specs.Link.{index_in}
use Rattle.sock_addrs.specs.Padded.{padded_to}
use Rattle.sock_addrs.specs.Reading.{length_byte, read_mask_of}
use Rattle.sock_addrs.specs.Rounding.{rounded}
use Rattle.sock_addrs.specs.Sockaddrs.{mask_sockaddr}
use Rattle.sock_addrs.specs.declared.bad_addr.BadAddr.{BadAddr}
use Rattle.sock_addrs.specs.declared.families.TheConstants.{AF_INET, AF_LINK}
use Rattle.route_msgs.specs.declared.bits.TheConstants.{RTA_AUTHOR, RTA_BRD, RTA_DST, RTA_GATEWAY, RTA_GENMASK, RTA_IFA, RTA_IFP, RTA_NETMASK}
use Rattle.message_text.specs.Names.{has_bit}

-- ---- one address

-- bytes 4 to 7 as `10.0.0.1`
unfoldable pub dotted : List ℕ → List ℕ
dotted sockaddr =
    decimal (slice_index sockaddr 4) ++ 46 ∷ decimal (slice_index sockaddr 5)
    ++ 46 ∷ decimal (slice_index sockaddr 6) ++ 46 ∷ decimal (slice_index sockaddr 7)

-- what is written of the IPv4 address in bytes 4 to 7
abbrev pub inet_cells : List ℕ → List ℕ
inet_cells sockaddr =
    16 ∷ AF_INET ∷ 0 ∷ 0
    ∷ slice_index sockaddr 4 ∷ slice_index sockaddr 5 ∷ slice_index sockaddr 6 ∷ slice_index sockaddr 7
    ∷ 0 ∷ 0 ∷ 0 ∷ 0 ∷ 0 ∷ 0 ∷ 0 ∷ 0 ∷ []

unfoldable pub is_inet : List ℕ → Bool
is_inet sockaddr = bytes_eq sockaddr (inet_cells sockaddr)

-- the bits of a mask, where it is written as the mask that it is read as
abbrev pub mask_as_written : List ℕ → Result ℕ BadAddr → Option ℕ
mask_as_written sockaddr (Ok bits) = if bytes_eq sockaddr (mask_sockaddr bits) then Some bits else None
mask_as_written sockaddr (Err fault) = None

unfoldable pub mask_in : List ℕ → Option ℕ
mask_in sockaddr = mask_as_written sockaddr (read_mask_of sockaddr)

-- the name and the address of a link-layer address
abbrev pub link_name : List ℕ → List ℕ
link_name sockaddr = take (slice_index sockaddr 5) (drop 8 sockaddr)

abbrev pub link_address : List ℕ → List ℕ
link_address sockaddr = take (slice_index sockaddr 6) (drop (8 + slice_index sockaddr 5) sockaddr)

-- what is written of a link-layer address with this length, index, type, name and address: without a selector, and
-- with zeros behind
abbrev pub link_cells : List ℕ → List ℕ
link_cells sockaddr =
    padded_to (rounded (length_byte sockaddr))
    ((length_byte sockaddr ∷ AF_LINK ∷ slice_index sockaddr 2 ∷ slice_index sockaddr 3
    ∷ slice_index sockaddr 4 ∷ slice_index sockaddr 5 ∷ slice_index sockaddr 6 ∷ 0 ∷ [])
    ++ link_name sockaddr ++ link_address sockaddr)

-- printed as it is in a name: no space, no colon and no control byte
abbrev pub is_plain : ℕ → Bool
is_plain b = nat_lt 32 b && nat_lt b 127 && not (b == 58)

-- the length byte takes all the bytes, and counts the name and the address
abbrev pub has_link_room : List ℕ → Bool
has_link_room sockaddr =
    rounded (length_byte sockaddr) == length sockaddr
    && nat_le (8 + slice_index sockaddr 5 + slice_index sockaddr 6) (length sockaddr)

unfoldable pub is_link : List ℕ → Bool
is_link sockaddr =
    has_link_room sockaddr && list_all is_plain (link_name sockaddr) && bytes_eq sockaddr (link_cells sockaddr)

unfoldable pub link_text : List ℕ → List ℕ
link_text sockaddr =
    codes "link " ++ link_name sockaddr ++ codes ":" ++ encode_lower (link_address sockaddr)
    ++ codes " index " ++ decimal (index_in sockaddr) ++ codes " type " ++ decimal (slice_index sockaddr 4)
    ++ codes " length " ++ decimal (length_byte sockaddr)

-- any bytes
abbrev pub bytes_text : List ℕ → List ℕ
bytes_text bytes = codes "bytes " ++ encode_lower bytes

-- a mask, or what is no mask
abbrev pub mask_or_other : Option ℕ → List ℕ → List ℕ
mask_or_other (Some bits) sockaddr = dotted sockaddr ++ codes " (/" ++ decimal bits ++ codes ")"
mask_or_other None sockaddr = if is_link sockaddr then link_text sockaddr else bytes_text sockaddr

-- an address; where a mask stands also as a mask
abbrev pub address_text : Bool → List ℕ → List ℕ
address_text is_mask sockaddr =
    if is_inet sockaddr then dotted sockaddr
    else mask_or_other (if is_mask then mask_in sockaddr else None) sockaddr

-- ---- all addresses, of the bytes behind the header

-- an address's place: its bit, its name, and whether it is a mask
pub record Place : Type 0 where
  pub bit : ℕ
  pub name : List ℕ
  pub is_mask : Bool

abbrev pub place : ℕ → List ℕ → Bool → Place
place bit name is_mask = record { bit = bit; name = name; is_mask = is_mask }

abbrev pub places : List Place
places =
    place RTA_DST (codes " DST ") false
    ∷ place RTA_GATEWAY (codes " GATEWAY ") false
    ∷ place RTA_NETMASK (codes " NETMASK ") true
    ∷ place RTA_GENMASK (codes " GENMASK ") true
    ∷ place RTA_IFP (codes " IFP ") false
    ∷ place RTA_IFA (codes " IFA ") false
    ∷ place RTA_AUTHOR (codes " AUTHOR ") false
    ∷ place RTA_BRD (codes " BRD ") false
    ∷ []

-- the address of this bit is named, and begins before the end
abbrev pub begins : ℕ → ℕ → List ℕ → Bool
begins bit addrs bytes = has_bit addrs bit && not (length bytes == 0)

-- the bytes that it takes, with its padding
abbrev pub front : List ℕ → List ℕ
front bytes = take (rounded (length_byte bytes)) bytes

-- the bytes behind it
unfoldable pub behind : ℕ → ℕ → List ℕ → List ℕ
behind bit addrs bytes = if begins bit addrs bytes then drop (rounded (length_byte bytes)) bytes else bytes

-- its length byte counts bytes past the end
unfoldable pub passes : ℕ → ℕ → List ℕ → Bool
passes bit addrs bytes = begins bit addrs bytes && nat_lt (length bytes) (length_byte bytes)

-- its line
unfoldable pub address_line : Place → ℕ → List ℕ → List ℕ
address_line p addrs bytes =
    if begins p.bit addrs bytes then p.name ++ address_text p.is_mask (front bytes) ++ codes "\n" else []

-- the bytes that no address has
unfoldable pub rest_line : List ℕ → List ℕ
rest_line [] = []
rest_line (b ∷ bs) = codes " behind " ++ encode_lower (b ∷ bs) ++ codes "\n"

-- the lines of the addresses that are there, in their order
abbrev pub address_lines : List Place → ℕ → List ℕ → List ℕ
address_lines [] addrs bytes = rest_line bytes
address_lines (p ∷ ps) addrs bytes = address_line p addrs bytes ++ address_lines ps addrs (behind p.bit addrs bytes)

-- one of them passes the end
abbrev pub one_passes : List Place → ℕ → List ℕ → Bool
one_passes [] addrs bytes = false
one_passes (p ∷ ps) addrs bytes = passes p.bit addrs bytes || one_passes ps addrs (behind p.bit addrs bytes)
