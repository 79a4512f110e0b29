-- The two headers, as tables of offset, width and value; every byte that no field names is 0.
use Rattle.std.specs.Prelude.{ℕ, ◌+◌, Bool, if◌then◌else◌, List, [], ◌∷◌, ◌++◌, length, replicate}
use Rattle.route_msgs.specs.Layout.{Field, field, number_at, with_fields}
use Rattle.route_msgs.specs.AddrInfo.{address_bytes, addrs_of}
use Rattle.route_msgs.specs.declared.flags.TheConstants.{IFA_ROUTE, RTF_CLONING}
use Rattle.route_msgs.specs.declared.kinds.TheConstants.{RTM_VERSION}
use Rattle.route_msgs.specs.declared.metrics.Metrics.{Metrics}
use Rattle.route_msgs.specs.declared.header.Header.{Header}
use Rattle.route_msgs.specs.declared.header.IfaHeader.{IfaHeader}
use Rattle.route_msgs.specs.declared.addr_info.AddrInfo.{AddrInfo}

-- metrics of which none is set
abbrev pub no_metrics : Metrics
no_metrics = record {
  locks = 0;
  mtu = 0;
  hopcount = 0;
  expire = 0;
  recvpipe = 0;
  sendpipe = 0;
  ssthresh = 0;
  rtt = 0;
  rttvar = 0;
  pksent = 0;
}

-- a header with no field set but its type
abbrev pub blank : ℕ → Header
blank kind = record {
  kind = kind;
  index = 0;
  padding = 0;
  flags = 0;
  addrs = 0;
  pid = 0;
  seq = 0;
  errno = 0;
  use_count = 0;
  inits = 0;
  metrics = no_metrics;
}

-- struct rt_metrics
abbrev pub metric_fields : Metrics → List Field
metric_fields ms =
    field 36 4 ms.locks
    ∷ field 40 4 ms.mtu
    ∷ field 44 4 ms.hopcount
    ∷ field 48 4 ms.expire
    ∷ field 52 4 ms.recvpipe
    ∷ field 56 4 ms.sendpipe
    ∷ field 60 4 ms.ssthresh
    ∷ field 64 4 ms.rtt
    ∷ field 68 4 ms.rttvar
    ∷ field 72 4 ms.pksent
    ∷ []

-- struct rt_msghdr of a message of this size that names these addresses
abbrev pub route_fields : ℕ → ℕ → Header → List Field
route_fields size addrs h =
    field 0 2 size
    ∷ field 2 1 RTM_VERSION
    ∷ field 3 1 h.kind
    ∷ field 4 2 h.index
    ∷ field 6 2 h.padding
    ∷ field 8 4 h.flags
    ∷ field 12 4 addrs
    ∷ field 16 4 h.pid
    ∷ field 20 4 h.seq
    ∷ field 24 4 h.errno
    ∷ field 28 4 h.use_count
    ∷ field 32 4 h.inits
    ∷ metric_fields h.metrics

-- struct ifa_msghdr of a message of this size that names these addresses
abbrev pub ifa_fields : ℕ → ℕ → IfaHeader → List Field
ifa_fields size addrs h =
    field 0 2 size
    ∷ field 2 1 RTM_VERSION
    ∷ field 3 1 h.kind
    ∷ field 4 4 addrs
    ∷ field 8 4 h.flags
    ∷ field 12 2 h.index
    ∷ field 14 2 h.padding
    ∷ field 16 4 h.metric
    ∷ []

-- the flags of an interface's address: its route is cloning, and its route was added
abbrev pub ifa_flags : Bool → Bool → ℕ
ifa_flags cloning routed = (if cloning then RTF_CLONING else 0) + (if routed then IFA_ROUTE else 0)

-- the headers' bytes
abbrev pub route_head : ℕ → ℕ → Header → List ℕ
route_head size addrs h = with_fields (route_fields size addrs h) (replicate 76 0)

abbrev pub ifa_head : ℕ → ℕ → IfaHeader → List ℕ
ifa_head size addrs h = with_fields (ifa_fields size addrs h) (replicate 20 0)

-- a message about a route: its header, which has the whole size and names the addresses that are there, and these
-- behind it
abbrev pub route_message : Header → AddrInfo → List ℕ
route_message h info = route_head (76 + length (address_bytes info)) (addrs_of info) h ++ address_bytes info

-- a message about an interface's address, likewise
abbrev pub ifa_message : IfaHeader → AddrInfo → List ℕ
ifa_message h info = ifa_head (20 + length (address_bytes info)) (addrs_of info) h ++ address_bytes info

-- the metrics of a message
abbrev pub metrics_in : List ℕ → Metrics
metrics_in m = record {
  locks = number_at 36 4 m;
  mtu = number_at 40 4 m;
  hopcount = number_at 44 4 m;
  expire = number_at 48 4 m;
  recvpipe = number_at 52 4 m;
  sendpipe = number_at 56 4 m;
  ssthresh = number_at 60 4 m;
  rtt = number_at 64 4 m;
  rttvar = number_at 68 4 m;
  pksent = number_at 72 4 m;
}

-- the header of a message, by the same offsets
abbrev pub header_in : List ℕ → Header
header_in m = record {
  kind = number_at 3 1 m;
  index = number_at 4 2 m;
  padding = number_at 6 2 m;
  flags = number_at 8 4 m;
  addrs = number_at 12 4 m;
  pid = number_at 16 4 m;
  seq = number_at 20 4 m;
  errno = number_at 24 4 m;
  use_count = number_at 28 4 m;
  inits = number_at 32 4 m;
  metrics = metrics_in m;
}
