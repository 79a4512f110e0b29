-- What is written of a message is read again.
use Rattle.std.specs.Prelude.{◌≡◌, ℕ, ◌+◌, ◌<◌, ◌^◌, max, List, [], ◌∷◌, length, take, drop, slice_index, get_or, Option, Some, None, Ok, ◌==◌, is_some, ⊤}
use Rattle.std.specs.List.{flat_map}
use Rattle.std.specs.Int.{bit_at}
use Rattle.route_msgs.specs.Layout.{number_at}
use Rattle.route_msgs.specs.Headers.{route_message, ifa_message}
use Rattle.route_msgs.specs.Slots.{ReadsMessage}
use Rattle.route_msgs.specs.Sockaddr.{IsSockaddr}
use Rattle.route_msgs.specs.AddrInfo.{in_order, bytes_or_none, address_bytes, addrs_of}
use Rattle.route_msgs.specs.declared.kinds.TheConstants.{RTM_VERSION}
use Rattle.route_msgs.specs.declared.metrics.Metrics.{Metrics}
use Rattle.route_msgs.specs.declared.header.Header.{Header}
use Rattle.route_msgs.specs.declared.header.IfaHeader.{IfaHeader}
use Rattle.route_msgs.specs.declared.parsed.Slot.{Slot}
use Rattle.route_msgs.specs.declared.addr_info.AddrInfo.{AddrInfo}

-- each metric fits its width
pub record AreMetrics (ms : Metrics) : Type 0 where
  pub of_locks : ms.locks < 2 ^ 32
  pub of_mtu : ms.mtu < 2 ^ 32
  pub of_hopcount : ms.hopcount < 2 ^ 32
  pub of_expire : ms.expire < 2 ^ 32
  pub of_recvpipe : ms.recvpipe < 2 ^ 32
  pub of_sendpipe : ms.sendpipe < 2 ^ 32
  pub of_ssthresh : ms.ssthresh < 2 ^ 32
  pub of_rtt : ms.rtt < 2 ^ 32
  pub of_rttvar : ms.rttvar < 2 ^ 32
  pub of_pksent : ms.pksent < 2 ^ 32

-- each field of the header fits its width
pub record IsHeader (h : Header) : Type 0 where
  pub of_kind : h.kind < 2 ^ 8
  pub of_index : h.index < 2 ^ 16
  pub of_padding : h.padding < 2 ^ 16
  pub of_flags : h.flags < 2 ^ 32
  pub of_pid : h.pid < 2 ^ 32
  pub of_seq : h.seq < 2 ^ 32
  pub of_errno : h.errno < 2 ^ 32
  pub of_use_count : h.use_count < 2 ^ 32
  pub of_inits : h.inits < 2 ^ 32
  pub of_metrics : AreMetrics h.metrics

pub record IsIfaHeader (h : IfaHeader) : Type 0 where
  pub of_kind : h.kind < 2 ^ 8
  pub of_flags : h.flags < 2 ^ 32
  pub of_index : h.index < 2 ^ 16
  pub of_padding : h.padding < 2 ^ 16
  pub of_metric : h.metric < 2 ^ 32

abbrev pub IsSockaddrOrNone : Option (List ℕ) → Type 0
IsSockaddrOrNone None = ⊤
IsSockaddrOrNone (Some sockaddr) = IsSockaddr sockaddr

-- each address that is there is one with its padding
abbrev pub AreSockaddrs : AddrInfo → Type 0
AreSockaddrs info = (k : ℕ) → IsSockaddrOrNone (get_or (in_order info) k None)

-- where an address begins: behind the header and the addresses before it
abbrev pub start_among : List (Option (List ℕ)) → ℕ → ℕ
start_among xs k = 76 + length (flat_map bytes_or_none (take k xs))

-- the slot of an address that begins here
abbrev pub slot_of_sockaddr : ℕ → Option (List ℕ) → Option Slot
slot_of_sockaddr at None = None
slot_of_sockaddr at (Some sockaddr) = Some (record { start = at; len = max 1 (slice_index sockaddr 0) })

abbrev pub slot_among : List (Option (List ℕ)) → ℕ → Option Slot
slot_among xs k = slot_of_sockaddr (start_among xs k) (get_or xs k None)

-- the slots of the addresses, in the order of their bits
abbrev pub slots_of : AddrInfo → List (Option Slot)
slots_of info =
    let xs = in_order info in
    slot_among xs 0 ∷ slot_among xs 1 ∷ slot_among xs 2 ∷ slot_among xs 3
    ∷ slot_among xs 4 ∷ slot_among xs 5 ∷ slot_among xs 6 ∷ slot_among xs 7 ∷ []

-- a message about a route is read as the header and the addresses that were written
abbrev pub WrittenIsRead : Type 0
WrittenIsRead = (h : Header) (info : AddrInfo) → IsHeader h → AreSockaddrs info
    → ReadsMessage (route_message h info)
    (Ok (record { header = record h { addrs = addrs_of info }; slots = slots_of info }))

-- and the bytes of each address stand where its slot begins
abbrev pub SockaddrsAreRead : Type 0
SockaddrsAreRead = (h : Header) (info : AddrInfo) (k : ℕ) (sockaddr : List ℕ) → IsHeader h → AreSockaddrs info
    → k < 8 → get_or (in_order info) k None ≡ Some sockaddr
    → take (length sockaddr) (drop (start_among (in_order info) k) (route_message h info)) ≡ sockaddr

-- a message about an interface's address has its fields at their offsets, and its addresses behind them
pub record IsLaidOut (h : IfaHeader) (info : AddrInfo) (m : List ℕ) : Type 0 where
  pub size : number_at 0 2 m ≡ length m
  pub version : number_at 2 1 m ≡ RTM_VERSION
  pub kind_there : number_at 3 1 m ≡ h.kind
  pub addrs_there : number_at 4 4 m ≡ addrs_of info
  pub flags_there : number_at 8 4 m ≡ h.flags
  pub index_there : number_at 12 2 m ≡ h.index
  pub padding_there : number_at 14 2 m ≡ h.padding
  pub metric_there : number_at 16 4 m ≡ h.metric
  pub behind : drop 20 m ≡ address_bytes info

abbrev pub IfaMessageIsLaidOut : Type 0
IfaMessageIsLaidOut = (h : IfaHeader) (info : AddrInfo) → IsIfaHeader h → AreSockaddrs info
    → IsLaidOut h info (ifa_message h info)

-- of the field that names addresses, each bit is set where its address is there
abbrev pub NamedBitsAreAddresses : Type 0
NamedBitsAreAddresses = (info : AddrInfo) (k : ℕ) → k < 8
    → (bit_at (addrs_of info) k == 1) ≡ is_some (get_or (in_order info) k None)
