-- What the calls answer that take a message apart.
use Rattle.std.specs.Prelude.{ℕ, ◌==◌, ◌||◌, Bool, if◌then◌else◌, List, length, Option, Some, None, option_map, Result, Ok, Err}
use Rattle.sock_addrs.specs.Reading.{read_gate_of, read_mask_of}
use Rattle.sock_addrs.specs.Sockaddrs.{family}
use Rattle.sock_addrs.specs.declared.bad_addr.BadAddr.{BadAddr}
use Rattle.sock_addrs.specs.declared.gate.Gate.{Gate}
use Rattle.sock_addrs.specs.declared.gate.Gate.TheVariants as gate
use Rattle.route_msgs.specs.declared.bits.TheConstants.{RTA_GENMASK, RTA_NETMASK}
use Rattle.route_msgs.specs.declared.header.Header.{Header as RouteHeader}
use Rattle.route_msgs.specs.declared.header.IfaHeader.{IfaHeader}
use Rattle.route_msgs.specs.declared.parsed.MsgErr.{MsgErr}
use Rattle.route_msgs.specs.declared.parsed.MsgErr.TheVariants as fault
use Rattle.message_text.specs.Parts.{Part, address_in, fault_in, header_in}
use Rattle.message_text.specs.declared.parts.MessageHeader.{MessageHeader}
use Rattle.message_text.specs.declared.parts.MessageHeader.TheVariants.{OfAddress, OfRoute}
use Rattle.hoiskend.specs.declared.codes.TheConstants.{ABSENT, LENGTH, OVERRUN, VERSION}
use Rattle.hoiskend.specs.declared.parts.Header.{Header}
use Rattle.hoiskend.specs.declared.parts.Address.{Address}
use Rattle.hoiskend.specs.declared.parts.Form.{Form}
use Rattle.hoiskend.specs.declared.parts.Form.TheVariants.{AsBytes, AsInet, AsLink, AsMask}
use Rattle.hoiskend.specs.declared.parts.TheConstants.{BYTES_FORM, INET_FORM, LINK_FORM, MASK_FORM}

-- the code of what is wrong with a message, or 0
abbrev pub code_of : Option MsgErr → ℕ
code_of None = 0
code_of (Some fault.Length) = LENGTH
code_of (Some fault.Version) = VERSION
code_of (Some fault.Overrun) = OVERRUN

-- ---- the header: a field that one of the two hasn't is 0 there

abbrev pub of_route : RouteHeader → Header
of_route h = record {
  flags = h.flags;
  addrs = h.addrs;
  pid = h.pid;
  seq = h.seq;
  error = h.errno;
  use_count = h.use_count;
  inits = h.inits;
  locks = h.metrics.locks;
  mtu = h.metrics.mtu;
  hopcount = h.metrics.hopcount;
  expire = h.metrics.expire;
  recvpipe = h.metrics.recvpipe;
  sendpipe = h.metrics.sendpipe;
  ssthresh = h.metrics.ssthresh;
  rtt = h.metrics.rtt;
  rttvar = h.metrics.rttvar;
  pksent = h.metrics.pksent;
  metric = 0;
  index = h.index;
  kind = h.kind;
}

abbrev pub of_address : IfaHeader → Header
of_address h = record {
  flags = h.flags;
  addrs = h.addrs;
  pid = 0;
  seq = 0;
  error = 0;
  use_count = 0;
  inits = 0;
  locks = 0;
  mtu = 0;
  hopcount = 0;
  expire = 0;
  recvpipe = 0;
  sendpipe = 0;
  ssthresh = 0;
  rtt = 0;
  rttvar = 0;
  pksent = 0;
  metric = h.metric;
  index = h.index;
  kind = h.kind;
}

abbrev pub of_either : MessageHeader → Header
of_either (OfRoute h) = of_route h
of_either (OfAddress h) = of_address h

-- the header of a message whose length is right
abbrev pub header_told : List ℕ → Option Header
header_told m = option_map of_either (header_in m)

-- ---- an address

-- as a gateway
abbrev pub form_by : Gate → Form
form_by (gate.Inet address) = AsInet address
form_by (gate.Link link) = AsLink

abbrev pub form_by_gate : Result Gate BadAddr → Form
form_by_gate (Ok g) = form_by g
form_by_gate (Err bad) = AsBytes

-- as a mask where it can be read as one, and else as a gateway
abbrev pub form_by_mask : Result ℕ BadAddr → List ℕ → Form
form_by_mask (Ok bits) sockaddr = AsMask bits
form_by_mask (Err bad) sockaddr = form_by_gate (read_gate_of sockaddr)

-- the bit is that of a mask
abbrev pub is_mask : ℕ → Bool
is_mask bit = bit == RTA_NETMASK || bit == RTA_GENMASK

abbrev pub form_at : ℕ → List ℕ → Form
form_at bit sockaddr =
    if is_mask bit then form_by_mask (read_mask_of sockaddr) sockaddr else form_by_gate (read_gate_of sockaddr)

-- its number, where it is an IPv4 address
abbrev pub inet_of : Form → ℕ
inet_of (AsInet address) = address
inet_of (AsMask bits) = 0
inet_of AsLink = 0
inet_of AsBytes = 0

-- how many bits it has, where it is a mask
abbrev pub bits_of : Form → ℕ
bits_of (AsMask bits) = bits
bits_of (AsInet address) = 0
bits_of AsLink = 0
bits_of AsBytes = 0

abbrev pub number_of : Form → ℕ
number_of (AsInet address) = INET_FORM
number_of (AsMask bits) = MASK_FORM
number_of AsLink = LINK_FORM
number_of AsBytes = BYTES_FORM

abbrev pub address_of : ℕ → Part → Address
address_of bit p = record {
  at = p.start;
  inet = inet_of (form_at bit p.bytes);
  n = length p.bytes;
  form = number_of (form_at bit p.bytes);
  bits = bits_of (form_at bit p.bytes);
  family = family p.bytes;
}

-- the address of a bit of a message without a fault, where it is there
abbrev pub part_unless : Option MsgErr → ℕ → List ℕ → Option Part
part_unless None bit m = address_in bit m
part_unless (Some fault) bit m = None

abbrev pub address_told : ℕ → List ℕ → Option Address
address_told bit m = option_map (address_of bit) (part_unless (fault_in m) bit m)

-- the code of a message's fault, or that the address isn't there, or 0
abbrev pub code_by : Option MsgErr → Option Part → ℕ
code_by (Some fault) part = code_of (Some fault)
code_by None None = ABSENT
code_by None (Some part) = 0

abbrev pub address_code : ℕ → List ℕ → ℕ
address_code bit m = code_by (fault_in m) (address_in bit m)
