-- What a refused command leaves as it was, in any step of the program: the machine's, or one that finds no memory.
use Rattle.std.specs.Prelude.{◌≡◌, ◌≢◌, ◌⊎◌, ℕ, Bool, true, false, List, [], ◌∷◌, map, Some}
use Rattle.sock_addrs.specs.Sockaddrs.{family}
use Rattle.sock_addrs.specs.declared.errno.Errno.{Errno}
use Rattle.sock_addrs.specs.declared.errno.Errno.TheVariants.{EEXIST, ENOBUFS, ENOMEM}
use Rattle.sock_addrs.specs.declared.gate.Gate.TheVariants as gate
use Rattle.if_addrs.specs.Interfaces.{Interface, with_address}
use Rattle.listeners.specs.Sockets.{pid_of}
use Rattle.route_ops.specs.Looks.{look}
use Rattle.route_ops.specs.Redirecting.{redirect_told}
use Rattle.route_core.specs.Messages.{notice_told}
use Rattle.route_core.specs.Step.{Steps, effect}
use Rattle.route_core.specs.Telling.{Told, told, delivered_all}
use Rattle.route_core.specs.World.{World}
use Rattle.route_core.specs.Writes.{destination_bytes, refused_reply}
use Rattle.route_core.specs.declared.answer.Answer.TheVariants.{Messages, Refused}
use Rattle.route_core.specs.Commands.{Command}
use Rattle.route_core.specs.declared.command.Command.TheVariants.{AddAddress, Packet, Redirect, Write}

-- a refused request leaves every route as it was; a packet is none, which counts and clones before its route refuses it
abbrev pub is_packet : Command → Bool
is_packet (Packet destination) = true
is_packet c = false

abbrev pub RefusalKeepsRoutes : Type 0
RefusalKeepsRoutes = (old : World) → (c : Command) → (errno : Errno) → (new : World) → is_packet c ≡ false
    → Steps old c (Refused errno) new → new.table ≡ old.table

-- the interfaces that a refused command leaves: an `addr` whose route is there already keeps its address
abbrev pub interfaces_left : Command → Errno → List Interface → List Interface
interfaces_left (AddAddress name address prefix cloning far) EEXIST interfaces =
    with_address name address prefix cloning far interfaces
interfaces_left command errno interfaces = interfaces

-- and but for that, every interface
abbrev pub RefusalKeepsInterfaces : Type 0
RefusalKeepsInterfaces = (old : World) → (c : Command) → (errno : Errno) → (new : World)
    → Steps old c (Refused errno) new → new.interfaces ≡ interfaces_left c errno old.interfaces

-- the family of the reply to a refused write: the destination's, or 0 where that was not looked at
abbrev pub IsRefusedFamily : List ℕ → ℕ → Type 0
IsRefusedFamily m f = (f ≡ 0) ⊎ (f ≡ family (destination_bytes m))

-- these messages are told of a refused write: the reply, with the pid of its writer; of a redirect: that it came, and
-- why it was refused; and of a packet: those of its look-up
abbrev pub TellsRefusal : World → Command → Errno → List Told → Type 0
TellsRefusal w (Write id m) errno ts =
    (pid : ℕ) × (f : ℕ) × (pid_of id w.sockets ≡ Some pid) × IsRefusedFamily m f
    × (ts ≡ told (refused_reply errno pid m) f (Some id) ∷ [])
TellsRefusal w (Redirect asked) errno ts =
    (tried : ℕ) × (ts ≡ notice_told (redirect_told asked tried (Some errno)) ∷ [])
TellsRefusal w (Packet destination) errno ts = ts ≡ map notice_told (look true (gate.Inet destination) w.table).messages
TellsRefusal w c errno ts = ⊥

-- or none
abbrev pub RefusalTells : World → Command → Errno → List Told → Type 0
RefusalTells w c errno ts = (ts ≡ []) ⊎ TellsRefusal w c errno ts

-- and every socket, but that these messages were delivered, in order
abbrev pub RefusalKeepsSockets : Type 0
RefusalKeepsSockets = (old : World) → (c : Command) → (errno : Errno) → (new : World) → Steps old c (Refused errno) new
    → (ts : List Told) × RefusalTells old c errno ts × (new.sockets ≡ delivered_all ts old.sockets)

-- a step that answers that there is no memory has changed nothing at all
abbrev pub NoMemoryKeepsAll : Type 0
NoMemoryKeepsAll = (old : World) → (c : Command) → (new : World) → Steps old c (Refused ENOBUFS) new → new ≡ old

-- the machine never answers that there is no memory
abbrev pub EffectsHaveMemory : Type 0
EffectsHaveMemory = (w : World) → (c : Command) → (effect w c).answer ≢ Refused ENOBUFS

-- nor does it leave messages out for want of it, but for want of room alone
abbrev pub LeftOutForRoom : Type 0
LeftOutForRoom = (w : World) → (c : Command) → (messages : List (List ℕ)) → (errno : Errno)
    → (effect w c).answer ≡ Messages messages (Some errno) → errno ≡ ENOMEM
