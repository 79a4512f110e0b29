-- The layouts of the systems, told as their headers declare them: the members of `struct rt_msghdr` of <net/route.h>,
-- with those of its `struct rt_metrics`, and of `struct ifa_msghdr` of <net/if.h>, one behind the other. No offset
-- stands here: a field's place follows from the members before it.
use Rattle.std.specs.Prelude.{ℕ, ◌+◌, bytes_eq, codes, if◌then◌else◌, List, [], ◌∷◌}
use Rattle.route_layouts.specs.declared.layout.Header.{Header}
use Rattle.route_layouts.specs.declared.layout.Layout.{Layout}
use Rattle.route_layouts.specs.declared.layout.System.{System}
use Rattle.route_layouts.specs.declared.layout.System.TheVariants as system
use Rattle.route_layouts.specs.declared.order.Order.TheVariants as order
use Rattle.route_layouts.specs.declared.place.Place.{Place}

-- a member of a struct: its name without the struct's prefix, where it isn't padding, and its bytes
abbrev pub Member : Type 0
Member = List ℕ × ℕ

-- ---- 4.4BSD, on a machine of 32 bits

abbrev pub bsd44_route : List Member
bsd44_route =
    (codes "msglen", 2) ∷ (codes "version", 1) ∷ (codes "type", 1) ∷ (codes "index", 2) ∷ (codes "", 2)
    ∷ (codes "flags", 4) ∷ (codes "addrs", 4) ∷ (codes "pid", 4) ∷ (codes "seq", 4) ∷ (codes "errno", 4)
    ∷ (codes "use", 4) ∷ (codes "inits", 4) ∷ (codes "locks", 4) ∷ (codes "mtu", 4) ∷ (codes "hopcount", 4)
    ∷ (codes "expire", 4) ∷ (codes "recvpipe", 4) ∷ (codes "sendpipe", 4) ∷ (codes "ssthresh", 4) ∷ (codes "rtt", 4)
    ∷ (codes "rttvar", 4) ∷ (codes "pksent", 4) ∷ []

abbrev pub bsd44_ifa : List Member
bsd44_ifa =
    (codes "msglen", 2) ∷ (codes "version", 1) ∷ (codes "type", 1) ∷ (codes "addrs", 4) ∷ (codes "flags", 4)
    ∷ (codes "index", 2) ∷ (codes "", 2) ∷ (codes "metric", 4) ∷ []

-- ---- FreeBSD; newer headers call two members otherwise, and none has another place

abbrev pub freebsd_route : List Member
freebsd_route =
    (codes "msglen", 2) ∷ (codes "version", 1) ∷ (codes "type", 1) ∷ (codes "index", 2) ∷ (codes "", 2)
    ∷ (codes "flags", 4) ∷ (codes "addrs", 4) ∷ (codes "pid", 4) ∷ (codes "seq", 4) ∷ (codes "errno", 4)
    ∷ (codes "fmask", 4) ∷ (codes "inits", 8) ∷ (codes "locks", 8) ∷ (codes "mtu", 8) ∷ (codes "hopcount", 8)
    ∷ (codes "expire", 8) ∷ (codes "recvpipe", 8) ∷ (codes "sendpipe", 8) ∷ (codes "ssthresh", 8) ∷ (codes "rtt", 8)
    ∷ (codes "rttvar", 8) ∷ (codes "pksent", 8) ∷ (codes "weight", 8) ∷ (codes "filler", 24) ∷ []

-- ---- OpenBSD

abbrev pub openbsd_route : List Member
openbsd_route =
    (codes "msglen", 2) ∷ (codes "version", 1) ∷ (codes "type", 1) ∷ (codes "hdrlen", 2) ∷ (codes "index", 2)
    ∷ (codes "tableid", 2) ∷ (codes "priority", 1) ∷ (codes "mpls", 1) ∷ (codes "addrs", 4) ∷ (codes "flags", 4)
    ∷ (codes "fmask", 4) ∷ (codes "pid", 4) ∷ (codes "seq", 4) ∷ (codes "errno", 4) ∷ (codes "inits", 4)
    ∷ (codes "pksent", 8) ∷ (codes "expire", 8) ∷ (codes "locks", 4) ∷ (codes "mtu", 4) ∷ (codes "refcnt", 4)
    ∷ (codes "hopcount", 4) ∷ (codes "recvpipe", 4) ∷ (codes "sendpipe", 4) ∷ (codes "ssthresh", 4)
    ∷ (codes "rtt", 4) ∷ (codes "rttvar", 4) ∷ (codes "pad", 4) ∷ []

abbrev pub openbsd_ifa : List Member
openbsd_ifa =
    (codes "msglen", 2) ∷ (codes "version", 1) ∷ (codes "type", 1) ∷ (codes "hdrlen", 2) ∷ (codes "index", 2)
    ∷ (codes "tableid", 2) ∷ (codes "pad1", 1) ∷ (codes "pad2", 1) ∷ (codes "addrs", 4) ∷ (codes "flags", 4)
    ∷ (codes "metric", 4) ∷ []

-- ---- NetBSD up to 7

abbrev pub netbsd_route : List Member
netbsd_route =
    (codes "msglen", 2) ∷ (codes "version", 1) ∷ (codes "type", 1) ∷ (codes "index", 2) ∷ (codes "", 2)
    ∷ (codes "flags", 4) ∷ (codes "addrs", 4) ∷ (codes "pid", 4) ∷ (codes "seq", 4) ∷ (codes "errno", 4)
    ∷ (codes "use", 4) ∷ (codes "inits", 4) ∷ (codes "", 4) ∷ (codes "locks", 8) ∷ (codes "mtu", 8)
    ∷ (codes "hopcount", 8) ∷ (codes "recvpipe", 8) ∷ (codes "sendpipe", 8) ∷ (codes "ssthresh", 8)
    ∷ (codes "rtt", 8) ∷ (codes "rttvar", 8) ∷ (codes "expire", 8) ∷ (codes "pksent", 8) ∷ []

abbrev pub netbsd_ifa : List Member
netbsd_ifa =
    (codes "msglen", 2) ∷ (codes "version", 1) ∷ (codes "type", 1) ∷ (codes "addrs", 4) ∷ (codes "flags", 4)
    ∷ (codes "metric", 4) ∷ (codes "index", 2) ∷ (codes "", 6) ∷ []

-- ---- macOS

abbrev pub darwin_route : List Member
darwin_route =
    (codes "msglen", 2) ∷ (codes "version", 1) ∷ (codes "type", 1) ∷ (codes "index", 2) ∷ (codes "", 2)
    ∷ (codes "flags", 4) ∷ (codes "addrs", 4) ∷ (codes "pid", 4) ∷ (codes "seq", 4) ∷ (codes "errno", 4)
    ∷ (codes "use", 4) ∷ (codes "inits", 4) ∷ (codes "locks", 4) ∷ (codes "mtu", 4) ∷ (codes "hopcount", 4)
    ∷ (codes "expire", 4) ∷ (codes "recvpipe", 4) ∷ (codes "sendpipe", 4) ∷ (codes "ssthresh", 4) ∷ (codes "rtt", 4)
    ∷ (codes "rttvar", 4) ∷ (codes "pksent", 4) ∷ (codes "filler", 16) ∷ []

-- ---- the places of their fields

-- the place of the member of this name where the struct begins at an offset; a member that isn't there has no byte
abbrev pub place_from : ℕ → List ℕ → List Member → Place
place_from at name [] = record { offset = 0; width = 0 }
place_from at name (m ∷ ms) =
    if bytes_eq m.0 name then record { offset = at; width = m.1 } else place_from (at + m.1) name ms

abbrev pub place_in : List Member → List ℕ → Place
place_in ms name = place_from 0 name ms

abbrev pub size_of : List Member → ℕ
size_of [] = 0
size_of (m ∷ ms) = m.1 + size_of ms

abbrev pub header_by : List Member → Header
header_by ms = record {
  size = size_of ms;
  places = record {
    length = place_in ms (codes "msglen");
    version = place_in ms (codes "version");
    header_length = place_in ms (codes "hdrlen");
    kind = place_in ms (codes "type");
    index = place_in ms (codes "index");
    flags = place_in ms (codes "flags");
    addrs = place_in ms (codes "addrs");
    pid = place_in ms (codes "pid");
    seq = place_in ms (codes "seq");
    errno = place_in ms (codes "errno");
    use_count = place_in ms (codes "use");
    inits = place_in ms (codes "inits");
    locks = place_in ms (codes "locks");
    mtu = place_in ms (codes "mtu");
    hopcount = place_in ms (codes "hopcount");
    expire = place_in ms (codes "expire");
    recvpipe = place_in ms (codes "recvpipe");
    sendpipe = place_in ms (codes "sendpipe");
    ssthresh = place_in ms (codes "ssthresh");
    rtt = place_in ms (codes "rtt");
    rttvar = place_in ms (codes "rttvar");
    pksent = place_in ms (codes "pksent");
    metric = place_in ms (codes "metric");
  };
}

-- ---- the layouts

abbrev pub layout_of : System → Layout
layout_of system.Bsd44 = record {
  order = order.Big;
  version = 3;
  flags = 0xffff;
  not_supported = 45;
  word = 4;
  most_link = 32;
  least_mask = 0;
  route = header_by bsd44_route;
  ifa = header_by bsd44_ifa;
}
layout_of system.FreeBsd = record {
  order = order.Little;
  version = 5;
  flags = 0xffff;
  not_supported = 45;
  word = 8;
  most_link = 255;
  least_mask = 0;
  route = header_by freebsd_route;
  ifa = header_by bsd44_ifa;
}
layout_of system.OpenBsd = record {
  order = order.Little;
  version = 5;
  flags = 0xddff;
  not_supported = 45;
  word = 8;
  most_link = 255;
  least_mask = 0;
  route = header_by openbsd_route;
  ifa = header_by openbsd_ifa;
}
layout_of system.NetBsd = record {
  order = order.Little;
  version = 4;
  flags = 0xdfff;
  not_supported = 45;
  word = 8;
  most_link = 255;
  least_mask = 0;
  route = header_by netbsd_route;
  ifa = header_by netbsd_ifa;
}
layout_of system.Darwin = record {
  order = order.Little;
  version = 5;
  flags = 0xdf7f;
  not_supported = 102;
  word = 4;
  most_link = 255;
  least_mask = 8;
  route = header_by darwin_route;
  ifa = header_by bsd44_ifa;
}
