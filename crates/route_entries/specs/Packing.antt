-- Which routes the table keeps small, and which in a block of their own.
use Rattle.std.specs.Prelude.{◌==◌, Bool, false, ◌&&◌}
use Rattle.sock_addrs.specs.declared.gate.Gate.{Gate}
use Rattle.sock_addrs.specs.declared.gate.Gate.TheVariants as gate
use Rattle.route_msgs.specs.declared.metrics.Metrics.{Metrics}
use Rattle.route_entries.specs.declared.route.Route.{Route}

-- none of the metrics is set, though some may be locked
abbrev pub sets_none : Metrics → Bool
sets_none m =
    m.mtu == 0 && m.hopcount == 0 && m.expire == 0 && m.recvpipe == 0 && m.sendpipe == 0 && m.ssthresh == 0
    && m.rtt == 0 && m.rttvar == 0 && m.pksent == 0

-- a route needs no block of its own: its gateway is an IPv4 address, and none of its metrics is set
abbrev pub is_small_over : Gate → Metrics → Bool
is_small_over (gate.Inet a) m = sets_none m
is_small_over (gate.Link l) m = false

abbrev pub is_small : Route → Bool
is_small r = is_small_over r.gateway r.metrics
