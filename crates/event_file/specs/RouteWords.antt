-- The message that the words of a `route` line compose.
use Rattle.std.specs.Prelude.{ℕ, ◌+◌, List, Option, Some, None, option_map, unwrap_or, bit_or}
use Rattle.sock_addrs.specs.Sockaddrs.{inet_sockaddr, mask_sockaddr}
use Rattle.route_msgs.specs.AddrInfo.{gate_sockaddr, no_addresses}
use Rattle.route_msgs.specs.Headers.{blank, route_message}
use Rattle.route_msgs.specs.declared.addr_info.AddrInfo.{AddrInfo}
use Rattle.route_msgs.specs.declared.header.Header.{Header}
use Rattle.route_msgs.specs.declared.metrics.Metrics.{Metrics}
use Rattle.route_msgs.specs.declared.inits.TheConstants.{RTV_EXPIRE, RTV_HOPCOUNT, RTV_MTU, RTV_RPIPE, RTV_RTT, RTV_RTTVAR, RTV_SPIPE, RTV_SSTHRESH}
use Rattle.route_msgs.specs.declared.kinds.TheConstants.{RTM_ADD, RTM_CHANGE, RTM_DELETE, RTM_GET, RTM_LOCK}
use Rattle.event_file.specs.declared.route_words.MetricWords.{MetricWords}
use Rattle.event_file.specs.declared.route_words.RouteWords.{RouteWords}
use Rattle.event_file.specs.declared.route_words.Verb.{Verb}
use Rattle.event_file.specs.declared.route_words.Verb.TheVariants.{Add, Delete, Change, Get, Lock}

-- the type of a verb's message
abbrev pub kind_of : Verb → ℕ
kind_of Add = RTM_ADD
kind_of Delete = RTM_DELETE
kind_of Change = RTM_CHANGE
kind_of Get = RTM_GET
kind_of Lock = RTM_LOCK

-- a metric's bit, where it is written
abbrev pub bit_where : ℕ → Option ℕ → ℕ
bit_where bit None = 0
bit_where bit (Some n) = bit

abbrev pub written_bits : MetricWords → ℕ
written_bits m =
    bit_where RTV_MTU m.mtu + bit_where RTV_HOPCOUNT m.hopcount
    + bit_where RTV_EXPIRE m.expire + bit_where RTV_RPIPE m.recvpipe
    + bit_where RTV_SPIPE m.sendpipe + bit_where RTV_SSTHRESH m.ssthresh
    + bit_where RTV_RTT m.rtt + bit_where RTV_RTTVAR m.rttvar

-- the bits that are written, and those of the metrics that are
abbrev pub inits_said : RouteWords → ℕ
inits_said w = bit_or w.inits (written_bits w.metrics)

abbrev pub metrics_said : RouteWords → Metrics
metrics_said w = record {
  locks = w.locks;
  mtu = unwrap_or w.metrics.mtu 0;
  hopcount = unwrap_or w.metrics.hopcount 0;
  expire = unwrap_or w.metrics.expire 0;
  recvpipe = unwrap_or w.metrics.recvpipe 0;
  sendpipe = unwrap_or w.metrics.sendpipe 0;
  ssthresh = unwrap_or w.metrics.ssthresh 0;
  rtt = unwrap_or w.metrics.rtt 0;
  rttvar = unwrap_or w.metrics.rttvar 0;
  pksent = 0;
}

-- the header: what no word names is 0
abbrev pub header_said : RouteWords → Header
header_said w = record (blank (kind_of w.verb)) {
  flags = w.flags;
  seq = w.seq;
  inits = inits_said w;
  metrics = metrics_said w;
}

-- the addresses that are named
abbrev pub addresses_named : RouteWords → AddrInfo
addresses_named w = record no_addresses {
  dst = Some (inet_sockaddr w.destination);
  gateway = option_map gate_sockaddr w.gateway;
  netmask = option_map mask_sockaddr w.netmask;
  genmask = option_map mask_sockaddr w.genmask;
  ifp = option_map gate_sockaddr w.ifp;
  ifa = option_map gate_sockaddr w.ifa;
}

abbrev pub composed : RouteWords → List ℕ
composed w = route_message (header_said w) (addresses_named w)
