-- The parts of a message: which of the two headers it has, its fields, and where its addresses stand.
use Rattle.std.specs.Prelude.{ℕ, ◌-◌, ◌==◌, ◌&&◌, ◌||◌, max, nat_lt, not, Bool, if◌then◌else◌, List, [], ◌∷◌, length, take, drop, slice_index, Option, Some, None, option_map}
use Rattle.sock_addrs.specs.Reading.{length_byte}
use Rattle.sock_addrs.specs.Rules.{first_fault, rule}
use Rattle.route_msgs.specs.Headers.{header_in as route_header_in}
use Rattle.route_msgs.specs.Layout.{number_at}
use Rattle.route_msgs.specs.declared.header.IfaHeader.{IfaHeader}
use Rattle.route_msgs.specs.declared.kinds.TheConstants.{RTM_DELADDR, RTM_NEWADDR, RTM_VERSION}
use Rattle.route_msgs.specs.declared.parsed.MsgErr.{MsgErr}
use Rattle.route_msgs.specs.declared.parsed.MsgErr.TheVariants as fault
use Rattle.message_text.specs.Addresses.{Place, begins, behind, one_passes, places}
use Rattle.message_text.specs.declared.parts.MessageHeader.{MessageHeader}
use Rattle.message_text.specs.declared.parts.MessageHeader.TheVariants.{OfAddress, OfRoute}

-- the type says that it is about an interface's address
abbrev pub is_about_address : List ℕ → Bool
is_about_address m = slice_index m 3 == RTM_NEWADDR || slice_index m 3 == RTM_DELADDR

-- the bytes of its header
abbrev pub header_size : List ℕ → ℕ
header_size m = if is_about_address m then 20 else 76

-- which addresses it names, and the bytes in which they are
abbrev pub addrs_in : List ℕ → ℕ
addrs_in m = if is_about_address m then number_at 4 4 m else number_at 12 4 m

abbrev pub body_of : List ℕ → List ℕ
body_of m = drop (header_size m) m

-- it has its header, and the length that this says
abbrev pub has_size : List ℕ → Bool
has_size m = not (nat_lt (length m) (header_size m)) && number_at 0 2 m == length m

-- why bytes are no message, the first reason that holds
abbrev pub fault_in : List ℕ → Option MsgErr
fault_in m = first_fault
    (rule (not (has_size m)) fault.Length
    ∷ rule (not (number_at 2 1 m == RTM_VERSION)) fault.Version
    ∷ rule (one_passes places (addrs_in m) (body_of m)) fault.Overrun
    ∷ [])

-- the header of a message about an interface's address
abbrev pub ifa_header_in : List ℕ → IfaHeader
ifa_header_in m = record {
  kind = number_at 3 1 m;
  addrs = number_at 4 4 m;
  flags = number_at 8 4 m;
  index = number_at 12 2 m;
  padding = number_at 14 2 m;
  metric = number_at 16 4 m;
}

-- its header, where it has one and its length
abbrev pub header_in : List ℕ → Option MessageHeader
header_in m =
    if has_size m then Some (if is_about_address m then OfAddress (ifa_header_in m) else OfRoute (route_header_in m))
    else None

-- the bytes from the address of a bit on, where it is there
abbrev pub from_address : List Place → ℕ → ℕ → List ℕ → Option (List ℕ)
from_address [] bit addrs bytes = None
from_address (p ∷ ps) bit addrs bytes =
    if p.bit == bit then (if begins bit addrs bytes then Some bytes else None)
    else from_address ps bit addrs (behind p.bit addrs bytes)

-- a part of a message: how many bytes stand before it, and its own
pub record Part : Type 0 where
  pub start : ℕ
  pub bytes : List ℕ

-- the address with which the message's last bytes begin: as many as its length byte says, and at least that one
abbrev pub part_at : List ℕ → List ℕ → Part
part_at m last = record { start = length m - length last; bytes = take (max 1 (length_byte last)) last }

-- the address of a bit
abbrev pub address_in : ℕ → List ℕ → Option Part
address_in bit m = option_map (part_at m) (from_address places bit (addrs_in m) (body_of m))
