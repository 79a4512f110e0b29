-- What a `route` line writes is a message that says what its words do.
use Rattle.std.specs.Prelude.{◌≡◌, ℕ, ◌<◌, ◌≤◌, ◌^◌, List, ◌∷◌, ⊤, Option, Some, None, Result, Ok}
use Rattle.std.specs.Option.{IfSome}
use Rattle.hex.specs.Hex.{IsBytes}
use Rattle.sock_addrs.specs.Link.{IsLinkSockaddr}
use Rattle.sock_addrs.specs.Reading.{ReadsGate, ReadsInet, ReadsMask}
use Rattle.sock_addrs.specs.declared.bad_addr.BadAddr.{BadAddr}
use Rattle.sock_addrs.specs.declared.gate.Gate.{Gate}
use Rattle.sock_addrs.specs.declared.gate.Gate.TheVariants as gate
use Rattle.route_msgs.specs.Headers.{header_in}
use Rattle.route_msgs.specs.Slots.{ReadsMessage, address_in, slots_in}
use Rattle.route_core.specs.Commands.{Command}
use Rattle.route_core.specs.declared.command.Command.TheVariants.{Write}
use Rattle.event_file.specs.Grammar.{route_form}
use Rattle.event_file.specs.RouteLine.{route_words_of}
use Rattle.event_file.specs.RouteWords.{composed, header_said}
use Rattle.event_file.specs.declared.route_words.MetricWords.{MetricWords}
use Rattle.event_file.specs.declared.route_words.RouteWords.{RouteWords}

-- ---- the bounds of the words

-- an IPv4 address, or the bytes of a link-layer address
abbrev pub IsGate : Gate → Type 0
IsGate (gate.Inet address) = address < 2 ^ 32
IsGate (gate.Link sockaddr) = IsLinkSockaddr sockaddr × IsBytes sockaddr

-- a metric that is written fits its width
abbrev pub IsMetric : Option ℕ → Type 0
IsMetric metric = IfSome metric (λ n. n < 2 ^ 32)

-- and a mask has at most 32 bits
abbrev pub IsPrefix : Option ℕ → Type 0
IsPrefix bits = IfSome bits (λ p. p ≤ 32)

pub record AreMetricWords (m : MetricWords) : Type 0 where
  pub of_mtu : IsMetric m.mtu
  pub of_hopcount : IsMetric m.hopcount
  pub of_expire : IsMetric m.expire
  pub of_recvpipe : IsMetric m.recvpipe
  pub of_sendpipe : IsMetric m.sendpipe
  pub of_ssthresh : IsMetric m.ssthresh
  pub of_rtt : IsMetric m.rtt
  pub of_rttvar : IsMetric m.rttvar

pub record AreRouteWords (w : RouteWords) : Type 0 where
  pub of_seq : w.seq < 2 ^ 32
  pub of_destination : w.destination < 2 ^ 32
  pub of_netmask : IsPrefix w.netmask
  pub of_gateway : IfSome w.gateway IsGate
  pub of_genmask : IsPrefix w.genmask
  pub of_ifp : IfSome w.ifp IsGate
  pub of_ifa : IfSome w.ifa IsGate
  pub of_flags : w.flags < 2 ^ 32
  pub of_inits : w.inits < 2 ^ 32
  pub of_locks : w.locks < 2 ^ 32
  pub of_metrics : AreMetricWords w.metrics

-- ---- the message

-- an address is there where a word names it, and it is read as that word says
abbrev pub IsReadAs : {A : Type 0} → (List ℕ → Result A BadAddr → Type 0) → Option (List ℕ) → Option A → Type 0
IsReadAs Reads None None = ⊤
IsReadAs Reads (Some sockaddr) (Some said) = Reads sockaddr (Ok said)
IsReadAs Reads sockaddr said = ⊥

-- the message is read without a fault, its fields are those of the words, and so are its addresses, of which there
-- are no others
pub record Says (w : RouteWords) (m : List ℕ) : Type 0 where
  pub whole : ReadsMessage m (Ok (record { header = header_in m; slots = slots_in m }))
  pub header : header_in m ≡ record (header_said w) { addrs = (header_in m).addrs }
  pub destination : IsReadAs ReadsInet (address_in m 0) (Some w.destination)
  pub gateway : IsReadAs ReadsGate (address_in m 1) w.gateway
  pub netmask : IsReadAs ReadsMask (address_in m 2) w.netmask
  pub genmask : IsReadAs ReadsMask (address_in m 3) w.genmask
  pub ifp : IsReadAs ReadsGate (address_in m 4) w.ifp
  pub ifa : IsReadAs ReadsGate (address_in m 5) w.ifa
  pub no_author : address_in m 6 ≡ None
  pub no_broadcast : address_in m 7 ≡ None

-- what words within the bounds compose says what they do
abbrev pub ComposedIsRead : Type 0
ComposedIsRead = (w : RouteWords) → AreRouteWords w → Says w (composed w)

-- the words behind `route` that say something are a write of a message that says what they do
abbrev pub RouteLinesAreRead : Type 0
RouteLinesAreRead = (id : List ℕ) (words : List (List ℕ)) (command : Command) → route_form (id ∷ words) ≡ Some command
    → (w : RouteWords) × (route_words_of words ≡ Some w) × (command ≡ Write id (composed w)) × Says w (composed w)
