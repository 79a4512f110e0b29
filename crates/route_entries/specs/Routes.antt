-- Routes: their flags, their clones, and how their metrics are set.
use Rattle.std.specs.Prelude.{ℕ, ◌+◌, ◌%◌, ◌^◌, ◌==◌, Bool, not, if◌then◌else◌, bit_and, bit_or, Option, Some, None}
use Rattle.std.specs.Int.{bit_not, w16, w32}
use Rattle.mask_table.specs.Ranks.{rank_of}
use Rattle.route_msgs.specs.declared.flags.TheConstants.{RTF_CLONING, RTF_HOST}
use Rattle.route_msgs.specs.declared.inits.TheConstants.{RTV_EXPIRE, RTV_HOPCOUNT, RTV_MTU, RTV_RPIPE, RTV_RTT, RTV_RTTVAR, RTV_SPIPE, RTV_SSTHRESH}
use Rattle.route_msgs.specs.declared.metrics.Metrics.{Metrics}
use Rattle.route_entries.specs.declared.route.Route.{Route}

-- a route has this flag, or one of these
abbrev pub has_flag : ℕ → Route → Bool
has_flag flags r = not (bit_and r.flags flags == 0)

-- a clone keeps all flags but CLONING, and without a genmask it is of a host
abbrev pub clone_flags : ℕ → Option ℕ → ℕ
clone_flags flags None = bit_or (bit_and flags (bit_not w16 RTF_CLONING)) RTF_HOST
clone_flags flags (Some genmask) = bit_and flags (bit_not w16 RTF_CLONING)

-- its rank: that of the genmask, or of no mask
abbrev pub clone_rank : Option ℕ → ℕ
clone_rank genmask = rank_of genmask

-- the clone of a route: gateway, metrics and interface address are its parent's
abbrev pub cloned : Route → Route
cloned r = record r { flags = clone_flags r.flags r.genmask; genmask = None; use_count = 0 }

-- a route that one more packet took
abbrev pub with_one_more_use : Route → Route
with_one_more_use r = record r { use_count = (r.use_count + 1) % 2 ^ 32 }

-- the new value of a metric where its bit is among these
abbrev pub named_or : ℕ → ℕ → ℕ → ℕ → ℕ
named_or inits bit new old = if bit_and inits bit == 0 then old else new

-- the metrics, of which inits names some by its bits that are set anew; locks and pksent have none
abbrev pub with_metrics : ℕ → Metrics → Metrics → Metrics
with_metrics inits new old = record old {
  mtu = named_or inits RTV_MTU new.mtu old.mtu;
  hopcount = named_or inits RTV_HOPCOUNT new.hopcount old.hopcount;
  expire = named_or inits RTV_EXPIRE new.expire old.expire;
  recvpipe = named_or inits RTV_RPIPE new.recvpipe old.recvpipe;
  sendpipe = named_or inits RTV_SPIPE new.sendpipe old.sendpipe;
  ssthresh = named_or inits RTV_SSTHRESH new.ssthresh old.ssthresh;
  rtt = named_or inits RTV_RTT new.rtt old.rtt;
  rttvar = named_or inits RTV_RTTVAR new.rttvar old.rttvar;
}

-- the locks without inits, or those of inits that are to be locked
abbrev pub with_locks : ℕ → ℕ → Metrics → Metrics
with_locks inits locks metrics =
    record metrics { locks = bit_or (bit_and metrics.locks (bit_not w32 inits)) (bit_and inits locks) }
