-- What is wrong with a message that was written, in words.
use Rattle.std.specs.Prelude.{ℕ, ◌==◌, ◌||◌, not, if◌then◌else◌, List, [], ◌∷◌, codes, Option, Some, None, is_none, unwrap_or}
use Rattle.sock_addrs.specs.Reading.{read_inet_of}
use Rattle.sock_addrs.specs.Rules.{first_fault, rule}
use Rattle.sock_addrs.specs.Sockaddrs.{family}
use Rattle.sock_addrs.specs.declared.families.TheConstants.{AF_INET}
use Rattle.route_msgs.specs.Headers.{header_in}
use Rattle.route_msgs.specs.MsgErr.{msg_err_text}
use Rattle.route_msgs.specs.Slots.{address_in, has_length, has_room, has_version}
use Rattle.route_msgs.specs.declared.kinds.TheConstants.{RTM_CHANGE, RTM_GET, RTM_LOCK}
use Rattle.route_msgs.specs.declared.parsed.MsgErr.TheVariants as fault
use Rattle.route_msgs.specs.declared.places.TheConstants.{RTAX_DST}
use Rattle.route_core.specs.Writes.{destination_bytes, has_bad_gate, has_bad_length, has_bad_mask}

-- what is wrong with the addresses of a message, the first that holds; where nothing else is, it lacks a gateway
abbrev pub address_fault : List ℕ → List ℕ
address_fault m = unwrap_or (first_fault
    (rule (is_none (address_in m RTAX_DST)) (codes "there is no destination")
    ∷ rule (has_bad_length (read_inet_of (destination_bytes m)))
    (codes "the destination's length is none of a sockaddr_in")
    ∷ rule (has_bad_gate m) (codes "the gateway, IFP or IFA is neither an IPv4 nor a link-layer sockaddr")
    ∷ rule (has_bad_mask m) (codes "a mask is not ones and then zeros")
    ∷ [])) (codes "a route to be added wants a gateway")

-- what is wrong with a message as a whole, the first that holds
abbrev pub whole_fault : List ℕ → Option (List ℕ)
whole_fault m = first_fault
    (rule (not (has_length m)) (msg_err_text fault.Length)
    ∷ rule (not (has_version m)) (msg_err_text fault.Version)
    ∷ rule (not (has_room m)) (msg_err_text fault.Overrun)
    ∷ [])

-- what is wrong with a message that is refused as malformed
abbrev pub message_fault : List ℕ → List ℕ
message_fault m = unwrap_or (whole_fault m) (address_fault m)

-- what isn't there that a message of this type is about
abbrev pub missing_by_kind : ℕ → List ℕ
missing_by_kind kind =
    if kind == RTM_GET then codes "no route leads there"
    else if kind == RTM_CHANGE || kind == RTM_LOCK then codes "no route has this destination"
    else codes "there is no such route"

-- what isn't there that a message is about: by its type where its destination is of IPv4
abbrev pub missing_in : List ℕ → List ℕ
missing_in m =
    if family (destination_bytes m) == AF_INET then missing_by_kind (header_in m).kind
    else codes "the destination is no IPv4 address"

abbrev pub missing_unless : Option (List ℕ) → List ℕ → List ℕ
missing_unless (Some fault) m = codes "there is no such route"
missing_unless None m = missing_in m

-- and of a message that is none as a whole, any
abbrev pub missing_reason : List ℕ → List ℕ
missing_reason m = missing_unless (whole_fault m) m
