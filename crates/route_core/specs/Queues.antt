-- Bounded queues over the machine's steps: what waits for a socket is of what it met alone, and no other
-- sees a loss.
use Rattle.std.specs.Prelude.{◌≡◌, ◌≤◌, ℕ, Bool, true, false, List, [], ◌∷◌, ◌++◌, length, map, Some, bytes_eq, if◌then◌else◌}
use Rattle.std.specs.List.{AllByRecursion}
use Rattle.std.specs.Option.{option_map_or}
use Rattle.sock_addrs.specs.declared.errno.Errno.TheVariants.{ENOBUFS}
use Rattle.listeners.specs.Kept.{Event, IsSublist, Read as HasRead, after_events, heard_of, heard_since, kept, nothing_kept}
use Rattle.listeners.specs.Queue.{joined}
use Rattle.listeners.specs.Sockets.{Socket, has_id, opened, socket_of}
use Rattle.listeners.specs.declared.limits.TheConstants.{MOST_QUEUED}
use Rattle.route_core.specs.Commands.{Command}
use Rattle.route_core.specs.Step.{Steps, effect, stepped, world_after}
use Rattle.route_core.specs.Telling.{Told}
use Rattle.route_core.specs.Undisturbed.{Runs, Turn, is_left_where}
use Rattle.route_core.specs.World.{World}
use Rattle.route_core.specs.declared.answer.Answer.{Answer}
use Rattle.route_core.specs.declared.answer.Answer.TheVariants.{Done, Refused}
use Rattle.route_core.specs.declared.command.Command.TheVariants.{Close, Open, Read}

-- ---- what a socket meets

-- its own read
abbrev pub own_read : List ℕ → Command → List Event
own_read x (Read id) = if bytes_eq id x then HasRead ∷ [] else []
own_read x c = []

-- those of the messages that it hears, in order, where it is open
abbrev pub heard_by : List ℕ → List Told → List Socket → List Event
heard_by x ts sockets = option_map_or (λ s. heard_of ts s) (socket_of x sockets) []

-- what x meets in the machine's step
abbrev pub step_events : List ℕ → World → Command → List Event
step_events x w c = own_read x c ++ heard_by x (effect w c).told (effect w c).sockets

-- it is answered that there is no memory, 55
abbrev pub lacks_memory : Answer → Bool
lacks_memory (Refused ENOBUFS) = true
lacks_memory answer = false

-- what x meets in these turns, from this world on: nothing where there is no memory, which leaves the world as it was
abbrev pub events_in : List ℕ → World → List Turn → List Event
events_in x w [] = []
events_in x w (t ∷ ts) =
    if lacks_memory t.answer then events_in x w ts
    else step_events x w t.command ++ events_in x (world_after (effect w t.command)) ts

-- ---- the laws

-- the command closes x
abbrev pub closes : List ℕ → Command → Bool
closes x (Close id) = bytes_eq id x
closes x c = false

-- nothing closes x
abbrev pub StaysOpen : List ℕ → List Turn → Type 0
StaysOpen x turns = AllByRecursion (λ t. closes x t.command ≡ false) turns

-- after any run in which nothing closes it, a socket has what it had and what it met make of it
abbrev pub KeptIsOfWhatItMet : Type 0
KeptIsOfWhatItMet = (x : List ℕ) (old new : World) (turns : List Turn) (before : Socket)
    → socket_of x old.sockets ≡ Some before → StaysOpen x turns → Runs old turns new
    → (after : Socket) × (socket_of x new.sockets ≡ Some after)
    × (kept after ≡ after_events (events_in x old turns) (kept before))

-- a socket that was opened is open, and has nothing
abbrev pub OpensWithNothing : Type 0
OpensWithNothing = (x : List ℕ) (pid protocol : ℕ) (old new : World) → Steps old (Open x pid protocol) Done new
    → (socket_of x new.sockets ≡ Some (opened x pid protocol)) × (kept (opened x pid protocol) ≡ nothing_kept)

-- where it had nothing, as one that was just opened, what waits for it is a sublist, in order, of what it heard since
-- its last read, in not more bytes than there is memory for
abbrev pub WaitsIsOfWhatItHeard : Type 0
WaitsIsOfWhatItHeard = (x : List ℕ) (old new : World) (turns : List Turn) (before : Socket)
    → socket_of x old.sockets ≡ Some before → kept before ≡ nothing_kept → StaysOpen x turns → Runs old turns new
    → (after : Socket) × (socket_of x new.sockets ≡ Some after)
    × IsSublist after.messages (heard_since [] (events_in x old turns))
    × (length (joined after.messages) ≤ MOST_QUEUED)

-- ---- what others have is seen nowhere else

-- a socket without its messages and its losses, and with loopback on
abbrev pub plain : Socket → Socket
plain s = record s { loopback = true; messages = []; lost = 0 }

abbrev pub bared : Bool → Socket → Socket
bared true s = s
bared false s = plain s

-- what x sees of a socket: all of its own, and of the others whose it is and what it hears
abbrev pub bare : List ℕ → Socket → Socket
bare x s = bared (has_id x s) s

-- two worlds are one but for the messages, the count of losses and the loopback of others than x
pub record AreButQueues (x : List ℕ) (a b : World) : Type 0 where
  pub table : b.table ≡ a.table
  pub interfaces : b.interfaces ≡ a.interfaces
  pub sockets : map (bare x) b.sockets ≡ map (bare x) a.sockets

-- the command is no `read`, `lost` or `loopback` of another than x
abbrev pub is_no_others : List ℕ → Command → Bool
is_no_others x c = is_left_where x (λ id. true) c

-- every such command is answered the same in both, and leaves two such worlds
abbrev pub LossesDisturbNobody : Type 0
LossesDisturbNobody = (x : List ℕ) (a b : World) (c : Command) → AreButQueues x a b → is_no_others x c ≡ true
    → ((stepped b c).answer ≡ (stepped a c).answer) × AreButQueues x (stepped a c).world (stepped b c).world
