-- Writes to a routing socket: the reasons that lie in a message itself to refuse it, in the order in which they are
-- looked at; what the others ask; and the reply to a refused one.
use Rattle.std.specs.Prelude.{◌==◌, ◌&&◌, ◌||◌, ◌%◌, ◌^◌, ℕ, Bool, true, false, not, nat_lt, if◌then◌else◌, List, [], ◌∷◌, length, Option, Some, None, is_none, is_some, unwrap_or, Result, Err}
use Rattle.std.specs.Option.{option_and_then}
use Rattle.std.specs.Result.{result_err, result_ok}
use Rattle.sock_addrs.specs.Errno.{errno_number}
use Rattle.sock_addrs.specs.Reading.{number_of_inet, read_gate_of, read_inet_of, read_mask_of}
use Rattle.sock_addrs.specs.Rules.{Rule, first_fault, rule, unless_fault}
use Rattle.sock_addrs.specs.Sockaddrs.{family}
use Rattle.sock_addrs.specs.declared.bad_addr.BadAddr.{BadAddr}
use Rattle.sock_addrs.specs.declared.bad_addr.BadAddr.TheVariants.{Length}
use Rattle.sock_addrs.specs.declared.errno.Errno.{Errno}
use Rattle.sock_addrs.specs.declared.errno.Errno.TheVariants.{EINVAL, EMSGSIZE, EOPNOTSUPP, EPROTONOSUPPORT, ESRCH}
use Rattle.sock_addrs.specs.declared.families.TheConstants.{AF_INET}
use Rattle.sock_addrs.specs.declared.gate.Gate.{Gate}
use Rattle.sock_addrs.specs.declared.gate.Gate.TheVariants as gate
use Rattle.route_msgs.specs.AddrInfo.{bytes_or_none}
use Rattle.route_msgs.specs.Headers.{header_in}
use Rattle.route_msgs.specs.Patches.{with_errno, with_pid}
use Rattle.route_msgs.specs.Slots.{address_in, has_length, has_room, has_version}
use Rattle.route_msgs.specs.declared.kinds.TheConstants.{RTM_ADD, RTM_CHANGE, RTM_DELETE, RTM_GET, RTM_LOCK}
use Rattle.route_msgs.specs.declared.places.TheConstants.{RTAX_DST, RTAX_GATEWAY, RTAX_GENMASK, RTAX_IFA, RTAX_IFP, RTAX_NETMASK}
use Rattle.route_msgs.specs.declared.parsed.MsgErr.{MsgErr}
use Rattle.route_msgs.specs.declared.parsed.MsgErr.TheVariants as fault
use Rattle.route_ops.specs.declared.adding.NewRoute.{NewRoute}
use Rattle.route_ops.specs.declared.changing.Change.{Change as Changing}
use Rattle.route_core.specs.declared.refusal.Refusal.{Refusal}
use Rattle.route_core.specs.declared.request.Request.{Request}
use Rattle.route_core.specs.declared.request.Request.TheVariants.{Add, Change, Delete, Get, Lock}
use Rattle.route_core.specs.declared.request.TheConstants.{MOST_BYTES}

-- ---- the addresses of a message

-- the bytes of the destination, none where it isn't there
abbrev pub destination_bytes : List ℕ → List ℕ
destination_bytes m = bytes_or_none (address_in m RTAX_DST)

-- the destination as an IPv4 address
abbrev pub destination : List ℕ → ℕ
destination m = number_of_inet (destination_bytes m)

-- an address as a gateway, and as the number of a mask's bits: none where it isn't there, or reading refuses it
abbrev pub gate_in : List ℕ → ℕ → Option Gate
gate_in m at = option_and_then (λ sockaddr. result_ok (read_gate_of sockaddr)) (address_in m at)

abbrev pub mask_in : List ℕ → ℕ → Option ℕ
mask_in m at = option_and_then (λ sockaddr. result_ok (read_mask_of sockaddr)) (address_in m at)

-- it is there, and reading refuses it
abbrev pub is_no_gate : List ℕ → ℕ → Bool
is_no_gate m at = is_some (option_and_then (λ sockaddr. result_err (read_gate_of sockaddr)) (address_in m at))

abbrev pub is_no_mask : List ℕ → ℕ → Bool
is_no_mask m at = is_some (option_and_then (λ sockaddr. result_err (read_mask_of sockaddr)) (address_in m at))

-- ---- the rules

-- a reason to refuse a write, and the family of the reply if anybody hears of it
abbrev pub refused_if : Bool → Errno → Option ℕ → Rule Refusal
refused_if holds errno family = rule holds (record { errno = errno; family = family })

-- reading refuses an address for its length
abbrev pub has_bad_length : Result ℕ BadAddr → Bool
has_bad_length (Err Length) = true
has_bad_length read = false

-- a gateway or an interface's address is there that is none; and so for masks
abbrev pub has_bad_gate : List ℕ → Bool
has_bad_gate m = is_no_gate m RTAX_GATEWAY || is_no_gate m RTAX_IFP || is_no_gate m RTAX_IFA

abbrev pub has_bad_mask : List ℕ → Bool
has_bad_mask m = is_no_mask m RTAX_NETMASK || is_no_mask m RTAX_GENMASK

-- an address that is there has a form that none has; of the destination that is asked where its family is IPv4's
abbrev pub has_bad_form : List ℕ → Bool
has_bad_form m = has_bad_length (read_inet_of (destination_bytes m)) || has_bad_gate m || has_bad_mask m

-- the types of messages that ask for something
abbrev pub is_request : ℕ → Bool
is_request kind =
    kind == RTM_ADD || kind == RTM_DELETE || kind == RTM_CHANGE || kind == RTM_LOCK || kind == RTM_GET

-- a route is to be added, and no gateway is there
abbrev pub lacks_gateway : List ℕ → Bool
lacks_gateway m = (header_in m).kind == RTM_ADD && is_none (address_in m RTAX_GATEWAY)

-- the reasons that lie in what is asked, which those hear who hear the destination's family
abbrev pub request_rules : List ℕ → ℕ → List (Rule Refusal)
request_rules m family =
    refused_if (has_bad_form m) EINVAL (Some family)
    ∷ refused_if (not (is_request (header_in m).kind)) EOPNOTSUPP (Some family)
    ∷ refused_if (lacks_gateway m) EINVAL (Some family)
    ∷ refused_if (not (family == AF_INET)) ESRCH (Some family)
    ∷ []

-- what is wrong with a message as a whole
abbrev pub refusal_of : MsgErr → Refusal
refusal_of fault.Length = record { errno = EINVAL; family = None }
refusal_of fault.Version = record { errno = EPROTONOSUPPORT; family = Some 0 }
refusal_of fault.Overrun = record { errno = EINVAL; family = Some 0 }

-- the reasons that lie in the message itself
abbrev pub message_rules : List ℕ → List (Rule Refusal)
message_rules m =
    refused_if (nat_lt MOST_BYTES (length m)) EMSGSIZE None
    ∷ refused_if (not (has_length m)) EINVAL None
    ∷ refused_if (not (has_version m)) EPROTONOSUPPORT (Some 0)
    ∷ refused_if (not (has_room m)) EINVAL (Some 0)
    ∷ refused_if (is_none (address_in m RTAX_DST)) EINVAL (Some 0)
    ∷ request_rules m (family (destination_bytes m))

-- ---- what is asked

-- a route's flags are the low 16 bits that are written
abbrev pub flags_in : List ℕ → ℕ
flags_in m = (header_in m).flags % 2 ^ 16

-- of a route to be added; a gateway is there, or the message is refused
abbrev pub new_route_in : List ℕ → NewRoute
new_route_in m = record {
  destination = destination m;
  netmask = mask_in m RTAX_NETMASK;
  gateway = unwrap_or (gate_in m RTAX_GATEWAY) (gate.Inet 0);
  genmask = mask_in m RTAX_GENMASK;
  flags = flags_in m;
  inits = (header_in m).inits;
  metrics = (header_in m).metrics;
}

-- of a route to be changed
abbrev pub change_in : List ℕ → Changing
change_in m = record {
  destination = destination m;
  netmask = mask_in m RTAX_NETMASK;
  gateway = gate_in m RTAX_GATEWAY;
  genmask = mask_in m RTAX_GENMASK;
  ifp = gate_in m RTAX_IFP;
  ifa = gate_in m RTAX_IFA;
  inits = (header_in m).inits;
  metrics = (header_in m).metrics;
}

-- an address of an interface is asked for, whatever it is
abbrev pub asks_interface : List ℕ → Bool
asks_interface m = is_some (address_in m RTAX_IFP) || is_some (address_in m RTAX_IFA)

-- what a message asks that no rule refuses, by its type
abbrev pub request_in : List ℕ → Request
request_in m =
    let h = header_in m in
    if h.kind == RTM_ADD then Add (new_route_in m)
    else if h.kind == RTM_DELETE then Delete (destination m) (mask_in m RTAX_NETMASK) (flags_in m)
    else if h.kind == RTM_CHANGE then Change (change_in m)
    else if h.kind == RTM_LOCK then Lock (destination m) (mask_in m RTAX_NETMASK) h.inits h.metrics.locks
    else Get (destination m) (asks_interface m)

-- what a write asks, or why it is refused before anything is looked up
abbrev pub request_of : List ℕ → Result Request Refusal
request_of m = unless_fault (first_fault (message_rules m)) (request_in m)

-- ---- the reply to a refused write

-- a message of another version may have its pid anywhere, and keeps it
abbrev pub keeps_pid : Errno → Bool
keeps_pid EPROTONOSUPPORT = true
keeps_pid errno = false

-- the written bytes with the writer's pid and the errno
abbrev pub refused_reply : Errno → ℕ → List ℕ → List ℕ
refused_reply errno pid m = with_errno (errno_number errno) (if keeps_pid errno then m else with_pid pid m)
