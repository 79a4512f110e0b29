-- The addresses that follow a header. An address stands in a message with zeros behind it, up to as many bytes as its
-- length byte takes.
use Rattle.std.specs.Prelude.{ℕ, ◌+◌, List, [], ◌∷◌, slice_index, Option, Some, None}
use Rattle.std.specs.List.{flat_map}
use Rattle.sock_addrs.specs.Padded.{padded_to}
use Rattle.sock_addrs.specs.Rounding.{rounded}
use Rattle.sock_addrs.specs.Sockaddrs.{inet_sockaddr}
use Rattle.sock_addrs.specs.declared.gate.Gate.{Gate}
use Rattle.sock_addrs.specs.declared.gate.Gate.TheVariants as gate
use Rattle.route_msgs.specs.declared.bits.TheConstants.{RTA_AUTHOR, RTA_BRD, RTA_DST, RTA_GATEWAY, RTA_GENMASK, RTA_IFA, RTA_IFP, RTA_NETMASK}
use Rattle.route_msgs.specs.declared.addr_info.AddrInfo.{AddrInfo}

-- an address with zeros behind it, to the bytes that its length byte takes
abbrev pub padded : List ℕ → List ℕ
padded sockaddr = padded_to (rounded (slice_index sockaddr 0)) sockaddr

-- a gateway with its padding
abbrev pub gate_sockaddr : Gate → List ℕ
gate_sockaddr (gate.Inet n) = inet_sockaddr n
gate_sockaddr (gate.Link sockaddr) = padded sockaddr

-- no address
abbrev pub no_addresses : AddrInfo
no_addresses = record {
  dst = None;
  gateway = None;
  netmask = None;
  genmask = None;
  ifp = None;
  ifa = None;
  author = None;
  brd = None;
}

-- the addresses in the order of their bits
abbrev pub in_order : AddrInfo → List (Option (List ℕ))
in_order info =
    info.dst ∷ info.gateway ∷ info.netmask ∷ info.genmask
    ∷ info.ifp ∷ info.ifa ∷ info.author ∷ info.brd ∷ []

abbrev pub bytes_or_none : Option (List ℕ) → List ℕ
bytes_or_none None = []
bytes_or_none (Some sockaddr) = sockaddr

-- the bytes behind the header: the addresses that are there, one after the other
abbrev pub address_bytes : AddrInfo → List ℕ
address_bytes info = flat_map bytes_or_none (in_order info)

-- a bit where the address is there
abbrev pub bit_of : ℕ → Option (List ℕ) → ℕ
bit_of bit None = 0
bit_of bit (Some sockaddr) = bit

-- the field that names the addresses
abbrev pub addrs_of : AddrInfo → ℕ
addrs_of info =
    bit_of RTA_DST info.dst + bit_of RTA_GATEWAY info.gateway
    + bit_of RTA_NETMASK info.netmask + bit_of RTA_GENMASK info.genmask
    + bit_of RTA_IFP info.ifp + bit_of RTA_IFA info.ifa + bit_of RTA_AUTHOR info.author + bit_of RTA_BRD info.brd
