-- The write that a request's fields ask for: that of the message which the same words of a `route` line compose.
use Rattle.std.specs.Prelude.{ℕ, nat_le, ◌==◌, if◌then◌else◌, List, take, Option, Some, None, option_map, bit_and}
use Rattle.sock_addrs.specs.declared.families.TheConstants.{AF_INET, AF_LINK}
use Rattle.sock_addrs.specs.declared.gate.Gate.{Gate}
use Rattle.sock_addrs.specs.declared.gate.Gate.TheVariants as gate
use Rattle.route_msgs.specs.declared.inits.TheConstants.{RTV_EXPIRE, RTV_HOPCOUNT, RTV_MTU, RTV_RPIPE, RTV_RTT, RTV_RTTVAR, RTV_SPIPE, RTV_SSTHRESH}
use Rattle.event_file.specs.RouteWords.{composed}
use Rattle.event_file.specs.Words.{◌>>=◌, link_of_bytes}
use Rattle.event_file.specs.declared.route_words.MetricWords.{MetricWords}
use Rattle.event_file.specs.declared.route_words.RouteWords.{RouteWords}
use Rattle.event_file.specs.declared.route_words.Verb.{Verb}
use Rattle.route_core.specs.Commands.{Command}
use Rattle.hoiskend.specs.Asked.{prefixed, write_asked}
use Rattle.hoiskend.specs.declared.request.Request.{Request}
use Rattle.hoiskend.specs.declared.request.TheConstants.{NO_MASK}
use Rattle.hoiskend.specs.declared.route.TheConstants.{LINK_BYTES}

-- a mask by its bits, or that none is named
abbrev pub mask_in : ℕ → Option (Option ℕ)
mask_in bits = if bits == NO_MASK then Some None else option_map Some (prefixed bits)

-- the link-layer address at the front of the cells, of so many bytes
abbrev pub link_in : ℕ → List ℕ → Option (List ℕ)
link_in n cells = if nat_le n LINK_BYTES then link_of_bytes (take n cells) else None

-- a gateway by its family, or that none is named, by 0
abbrev pub gate_in : ℕ → ℕ → Option (List ℕ) → Option (Option Gate)
gate_in family address link =
    if family == 0 then Some None
    else if family == AF_INET then Some (Some (gate.Inet address))
    else if family == AF_LINK then option_map (λ l. Some (gate.Link l)) link
    else None

-- a metric is written where `inits` has its bit
abbrev pub metric_in : ℕ → ℕ → ℕ → Option ℕ
metric_in inits bit n = if bit_and inits bit == 0 then None else Some n

abbrev pub metrics_in : Request → MetricWords
metrics_in r = record {
  mtu = metric_in r.inits RTV_MTU r.mtu;
  hopcount = metric_in r.inits RTV_HOPCOUNT r.hopcount;
  expire = metric_in r.inits RTV_EXPIRE r.expire;
  recvpipe = metric_in r.inits RTV_RPIPE r.recvpipe;
  sendpipe = metric_in r.inits RTV_SPIPE r.sendpipe;
  ssthresh = metric_in r.inits RTV_SSTHRESH r.ssthresh;
  rtt = metric_in r.inits RTV_RTT r.rtt;
  rttvar = metric_in r.inits RTV_RTTVAR r.rttvar;
}

-- the words of a `route` line with this verb
unfoldable pub words_asked : Verb → Request → Option RouteWords
words_asked verb r = do
  netmask ← mask_in r.prefix
  gateway ← gate_in r.family r.gateway (link_in r.link_n r.link)
  genmask ← mask_in r.genmask
  Some (record {
    seq = r.seq;
    verb = verb;
    destination = r.destination;
    netmask = netmask;
    gateway = gateway;
    genmask = genmask;
    ifp = None;
    ifa = None;
    flags = r.flags;
    inits = r.inits;
    locks = r.locks;
    metrics = metrics_in r;
  })

unfoldable pub request_asked : Verb → List ℕ → Request → Option Command
request_asked verb id r = do
  words ← words_asked verb r
  write_asked id (composed words)
