-- Why a command was refused, in words: by the errno, and where that may mean several things by the command.
use Rattle.std.specs.Prelude.{ℕ, List, ◌++◌, codes, decimal, Option, Some, None}
use Rattle.message_text.specs.Names.{errno_name}
use Rattle.sock_addrs.specs.Errno.{errno_number}
use Rattle.sock_addrs.specs.declared.errno.Errno.{Errno}
use Rattle.sock_addrs.specs.declared.errno.Errno.TheVariants as errno
use Rattle.route_core.specs.Commands.{Command}
use Rattle.route_core.specs.declared.command.Command.TheVariants.{AddAddress, Attach, Losing, Open, Packet, Redirect, Write}
use Rattle.world_words.specs.Faults.{message_fault, missing_reason}

-- ESRCH: what isn't there
abbrev pub absent_reason : Command → List ℕ
absent_reason (Write id bytes) = missing_reason bytes
absent_reason c = codes "there is no such route"

-- EEXIST: what is there already
abbrev pub taken_reason : Command → List ℕ
taken_reason (Attach name kind type_number link) = codes "there is an interface of this name"
taken_reason (AddAddress name address prefix cloning far) =
    codes "a route of its network and mask is there already; the interface keeps the address without one"
taken_reason (Open id pid protocol) = codes "a socket of this id is open"
taken_reason (Write id bytes) = codes "there is a route with this key and mask"
taken_reason (Redirect asked) = codes "the destination has a route without a mask that lacks the flag HOST"
taken_reason c = codes "it is there already"

-- of an address that doesn't fit its interface, by the address of the other end
abbrev pub misfit_reason : Option ℕ → List ℕ
misfit_reason (Some far) = codes "only a point-to-point interface has another end"
misfit_reason None = codes "a point-to-point interface wants the address of its other end"

-- EINVAL: what isn't as it has to be
abbrev pub invalid_reason : Command → List ℕ
invalid_reason (AddAddress name address prefix cloning far) = misfit_reason far
invalid_reason (Write id bytes) = message_fault bytes
invalid_reason (Redirect asked) =
    codes "who says so is not the gateway of the destination's route, or the new gateway is reached by another interface address than that route's"
invalid_reason c = codes "it can't be done so"

-- ENOSPC: what there are too many of
abbrev pub full_reason : Command → List ℕ
full_reason (Attach name kind type_number link) = codes "there are 64 interfaces"
full_reason (AddAddress name address prefix cloning far) = codes "65535 addresses were added, and no more can be"
full_reason c = codes "there is no room for one more"

-- ENETUNREACH: where no network is reached
abbrev pub network_reason : Command → List ℕ
network_reason (Write id bytes) = codes "no interface leads to the gateway"
network_reason (Packet destination) = codes "its route has the flag REJECT"
network_reason (Redirect asked) = codes "the new gateway is in no interface's network"
network_reason c = codes "the network can't be reached"

-- EHOSTUNREACH: where no host is reached
abbrev pub host_reason : Command → List ℕ
host_reason (Packet destination) = codes "no route leads there, or a host's route that has the flag REJECT"
host_reason (Redirect asked) =
    codes "the new gateway is an address or a broadcast address of an interface, or the destination's route lacks the flag GATEWAY"
host_reason (Losing destination) = codes "no route leads there"
host_reason c = codes "the host can't be reached"

-- why a command was refused
abbrev pub reason_of : Command → Errno → List ℕ
reason_of c errno.ESRCH = absent_reason c
reason_of c errno.ENXIO = codes "there is no interface of this name"
reason_of c errno.EBADF = codes "no socket of this id is open"
reason_of c errno.ENOMEM = codes "the room is too small for all that is asked for"
reason_of c errno.EEXIST = taken_reason c
reason_of c errno.EINVAL = invalid_reason c
reason_of c errno.EMFILE = codes "64 sockets are open"
reason_of c errno.ENOSPC = full_reason c
reason_of c errno.EMSGSIZE = codes "the message has more than 8192 bytes"
reason_of c errno.EPROTONOSUPPORT = codes "the version is not 3"
reason_of c errno.EOPNOTSUPP = codes "a message of this type is no request"
reason_of c errno.EADDRINUSE = codes "an interface holds the address already"
reason_of c errno.EADDRNOTAVAIL = codes "the interface does not hold the address"
reason_of c errno.ENETUNREACH = network_reason c
reason_of c errno.ENOBUFS = codes "there is no memory; nothing was changed"
reason_of c errno.ETOOMANYREFS =
    codes "no route of this destination has this mask; without a mask a host's route is meant"
reason_of c errno.EHOSTUNREACH = host_reason c

-- the errno's name and number, and the reason, on a line
abbrev pub refusal_words : Command → Errno → List ℕ
refusal_words c e =
    errno_name (errno_number e) ++ codes " (" ++ decimal (errno_number e) ++ codes "): " ++ reason_of c e ++ codes "\n"
