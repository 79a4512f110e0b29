-- What is in a world as the calls that tell it see it.
use Rattle.std.specs.Prelude.{ℕ, ◌==◌, not, nat_le, if◌then◌else◌, length, Option, Some, None, option_map, bit_and}
use Rattle.sock_addrs.specs.Errno.{errno_number}
use Rattle.sock_addrs.specs.Padded.{padded_to}
use Rattle.sock_addrs.specs.declared.errno.Errno.{Errno}
use Rattle.sock_addrs.specs.declared.errno.Errno.TheVariants.{EADDRNOTAVAIL, EINVAL, ENXIO, ESRCH}
use Rattle.mask_table.specs.Ranks.{rank_of}
use Rattle.if_addrs.specs.Told.{interface_told, next_address}
use Rattle.if_addrs.specs.declared.kind.Kind.{Kind}
use Rattle.if_addrs.specs.declared.kind.Kind.TheVariants.{Broadcast, Loopback, PointToPoint}
use Rattle.if_addrs.specs.declared.told.AddressTold.{AddressTold}
use Rattle.if_addrs.specs.declared.told.InterfaceTold.{InterfaceTold}
use Rattle.listeners.specs.Told.{socket_told}
use Rattle.listeners.specs.declared.told.SocketTold.{SocketTold}
use Rattle.route_msgs.specs.declared.flags.TheConstants.{RTF_BLACKHOLE}
use Rattle.route_core.specs.Told.{stored}
use Rattle.route_core.specs.World.{World}
use Rattle.route_core.specs.declared.told.RouteTold.{RouteTold}
use Rattle.hoiskend.specs.Sessions.{Session, number_of, route_of}
use Rattle.hoiskend.specs.declared.there.Entry.{Entry}
use Rattle.hoiskend.specs.declared.there.Interface.{Interface}
use Rattle.hoiskend.specs.declared.there.InterfaceAddress.{InterfaceAddress}
use Rattle.hoiskend.specs.declared.there.Socket.{Socket}
use Rattle.hoiskend.specs.declared.there.TheConstants.{LINK_ADDRESS_BYTES, NAME_BYTES}

-- ---- as C has it

-- the number by which hk_attach knows a kind
abbrev pub kind_number : Kind → ℕ
kind_number Broadcast = 0
kind_number Loopback = 1
kind_number PointToPoint = 2

abbrev pub interface_of : ℕ → InterfaceTold → Interface
interface_of index i = record {
  index = index;
  kind = kind_number i.kind;
  type_number = i.type_number;
  name_n = length i.name;
  link_n = length i.link;
  name = padded_to NAME_BYTES i.name;
  link = padded_to LINK_ADDRESS_BYTES i.link;
}

abbrev pub address_of : AddressTold → InterfaceAddress
address_of a = record {
  address = a.address;
  far = a.facts.far;
  prefix = a.facts.prefix;
  cloning = number_of a.facts.cloning;
  routed = number_of a.facts.routed;
}

abbrev pub socket_of : SocketTold → Socket
socket_of s = record {
  lost = s.lost;
  waiting = s.waiting;
  pid = s.pid;
  protocol = s.protocol;
  loopback = number_of s.loopback;
  id_n = length s.id;
  id = padded_to NAME_BYTES s.id;
}

abbrev pub entry_of : RouteTold → Entry
entry_of r = record {
  route = route_of r.choice (not (bit_and r.choice.flags RTF_BLACKHOLE == 0));
  use_count = r.use_count;
  locks = r.metrics.locks;
  mtu = r.metrics.mtu;
  hopcount = r.metrics.hopcount;
  expire = r.metrics.expire;
  recvpipe = r.metrics.recvpipe;
  sendpipe = r.metrics.sendpipe;
  ssthresh = r.metrics.ssthresh;
  rtt = r.metrics.rtt;
  rttvar = r.metrics.rttvar;
  pksent = r.metrics.pksent;
  genmask = rank_of r.genmask;
}

-- ---- what a world has

abbrev pub interface_seen : ℕ → World → Option Interface
interface_seen index w = option_map (interface_of index) (interface_told index w.interfaces)

-- the first address of an interface from a place on, and the place behind it
abbrev pub address_seen : ℕ → ℕ → World → Option InterfaceAddress
address_seen index place w = option_map address_of (next_address index place w.interfaces)

abbrev pub next_of : ℕ → ℕ → World → Option ℕ
next_of index place w = option_map (λ a. a.next) (next_address index place w.interfaces)

abbrev pub socket_seen : ℕ → World → Option Socket
socket_seen place w = option_map socket_of (socket_told place w.sockets)

-- the route with this key and rank
abbrev pub entry_seen : ℕ → ℕ → World → Option Entry
entry_seen key rank w = option_map entry_of (stored key rank w)

-- ---- by a handle

-- what there is in its world; a closed one has nothing
abbrev pub seen_by : {T : Type 0} → (World → Option T) → Option Session → Option T
seen_by seen None = None
seen_by seen (Some s) = seen s.world

-- 0 where it is there, and otherwise this errno
abbrev pub code_where : {T : Type 0} → Errno → Option T → ℕ
code_where errno None = errno_number errno
code_where errno (Some there) = 0

-- that; and by a closed handle EINVAL
abbrev pub code_by : {T : Type 0} → (World → Option T) → Errno → Option Session → ℕ
code_by seen errno None = errno_number EINVAL
code_by seen errno (Some s) = code_where errno (seen s.world)

-- why an interface has no address: it isn't there, or it has none
abbrev pub no_address : Option InterfaceTold → Errno
no_address None = ENXIO
no_address (Some i) = EADDRNOTAVAIL

abbrev pub address_code : ℕ → ℕ → Option Session → ℕ
address_code index place None = errno_number EINVAL
address_code index place (Some s) =
    code_where (no_address (interface_told index s.world.interfaces)) (address_seen index place s.world)

-- a rank is at most 33
abbrev pub entry_code : ℕ → ℕ → Option Session → ℕ
entry_code key rank session =
    if nat_le rank 33 then code_by (entry_seen key rank) ESRCH session else errno_number EINVAL

-- of a rank beyond that nothing is told
abbrev pub entry_told : ℕ → ℕ → Option Session → Option Entry
entry_told key rank session = if nat_le rank 33 then seen_by (entry_seen key rank) session else None
