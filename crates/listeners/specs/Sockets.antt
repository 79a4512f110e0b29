-- The open sockets, and what each of them hears.
use Rattle.std.specs.Prelude.{ℕ, ◌≤◌, ◌==◌, nat_le, Bool, true, false, not, ◌&&◌, ◌||◌, List, [], ◌∷◌, ◌++◌, length, map, filter, Option, Some, None, is_none, option_map, bytes_eq, if◌then◌else◌}
use Rattle.std.specs.List.{AllByRecursion, find, list_any}
use Rattle.sock_addrs.specs.declared.errno.Errno.{Errno}
use Rattle.sock_addrs.specs.declared.errno.Errno.TheVariants.{EBADF, EEXIST, EMFILE}
use Rattle.listeners.specs.declared.limits.TheConstants.{MOST_QUEUED, MOST_SOCKETS}
use Rattle.sock_addrs.specs.Rules.{rule, first_fault}
use Rattle.sock_addrs.specs.First.{change_first}
use Rattle.listeners.specs.Queue.{fits, joined, one_more}

-- a socket: the process that opened it, the family that it hears (0: all), whether it hears the replies to its own
-- writes, the messages that it has not yet read, the oldest first, and how many that it heard were lost
pub record Socket : Type 0 where
  pub id : List ℕ
  pub pid : ℕ
  pub protocol : ℕ
  pub loopback : Bool
  pub messages : List (List ℕ)
  pub lost : ℕ

abbrev pub has_id : List ℕ → Socket → Bool
has_id id s = bytes_eq s.id id

-- the socket with this id
abbrev pub socket_of : List ℕ → List Socket → Option Socket
socket_of id sockets = find (has_id id) sockets

-- the pid of the process that opened it
abbrev pub pid_of : List ℕ → List Socket → Option ℕ
pid_of id sockets = option_map (λ s. s.pid) (socket_of id sockets)

-- the messages that it has not yet read
abbrev pub messages_of : List ℕ → List Socket → Option (List (List ℕ))
messages_of id sockets = option_map (λ s. s.messages) (socket_of id sockets)

-- how many messages that it heard were lost
abbrev pub lost_of : List ℕ → List Socket → Option ℕ
lost_of id sockets = option_map (λ s. s.lost) (socket_of id sockets)

-- why something can't be done with the socket of this id: it isn't open
abbrev pub closed_fault : List ℕ → List Socket → Option Errno
closed_fault id sockets = first_fault (rule (is_none (socket_of id sockets)) EBADF ∷ [])

-- why a socket with this id can't be opened
abbrev pub listen_fault : List ℕ → List Socket → Option Errno
listen_fault id sockets = first_fault
    (rule (list_any (has_id id) sockets) EEXIST
    ∷ rule (nat_le MOST_SOCKETS (length sockets)) EMFILE
    ∷ [])

-- a socket as it is opened
abbrev pub opened : List ℕ → ℕ → ℕ → Socket
opened id pid protocol = record { id = id; pid = pid; protocol = protocol; loopback = true; messages = []; lost = 0 }

-- the writer whose reply a message is, if it is one, is the socket with this id
abbrev pub is_own : List ℕ → Option (List ℕ) → Bool
is_own id None = false
is_own id (Some writer) = bytes_eq id writer

-- whether the socket hears a message of the family: it hears all families or this one, and it is not the reply to its
-- own write while loopback is off
abbrev pub hears : ℕ → Option (List ℕ) → Socket → Bool
hears family own s = (s.protocol == 0 || s.protocol == family) && (s.loopback || not (is_own s.id own))

-- how many bytes its messages have
abbrev pub queued : Socket → ℕ
queued s = length (joined s.messages)

-- each has messages of not more bytes than it has memory for
abbrev pub AreBounded : List Socket → Type 0
AreBounded sockets = AllByRecursion (λ s. queued s ≤ MOST_QUEUED) sockets

-- a socket after it heard a message: it keeps the whole of it where there is room, and else has lost it
abbrev pub after_hearing : List ℕ → Socket → Socket
after_hearing message s =
    if fits s.messages message then record s { messages = s.messages ++ message ∷ [] }
    else record s { lost = one_more s.lost }

-- a socket after a message was delivered
abbrev pub after_delivery : List ℕ → ℕ → Option (List ℕ) → Socket → Socket
after_delivery message family own s = if hears family own s then after_hearing message s else s

-- the sockets after a message was delivered to all that hear it, each of which keeps or loses it
abbrev pub delivered : List ℕ → ℕ → Option (List ℕ) → List Socket → List Socket
delivered message family own sockets = map (after_delivery message family own) sockets

-- a socket after its messages were read
abbrev pub emptied : Socket → Socket
emptied s = record s { messages = [] }

-- the sockets after the one with this id read its messages
abbrev pub taken : List ℕ → List Socket → List Socket
taken id sockets = change_first (has_id id) emptied sockets

-- the sockets without the one with this id, whose messages go with it
abbrev pub without : List ℕ → List Socket → List Socket
without id sockets = filter (λ s. not (has_id id s)) sockets

-- a socket with loopback on or off
abbrev pub looped : Bool → Socket → Socket
looped on s = record s { loopback = on }

-- the sockets with loopback of the one with this id on or off
abbrev pub with_loopback : List ℕ → Bool → List Socket → List Socket
with_loopback id on sockets = change_first (has_id id) (looped on) sockets
