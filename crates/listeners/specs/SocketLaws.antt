-- What sockets do not do to one another.
use Rattle.std.specs.Prelude.{◌≡◌, ◌↔◌, ℕ, ◌+◌, ◌-◌, ◌^◌, ◌<◌, ◌≤◌, Bool, true, false, List, ◌∷◌, [], ◌++◌, length, map, Option, Some, None, option_map, IsTrue, ◌⊎◌, bytes_eq}
use Rattle.listeners.specs.Sockets.{Socket, AreBounded, queued, socket_of, lost_of, taken, delivered, after_delivery, emptied, hears, is_own, looped, opened, with_loopback, without}
use Rattle.listeners.specs.declared.limits.TheConstants.{MOST_QUEUED, MOST_SOCKETS}
use Rattle.listeners.specs.Queue.{one_more}

-- a socket that reads its messages leaves every other as it was
abbrev pub ReadingDisturbsNoOther : Type 0
ReadingDisturbsNoOther = (id other : List ℕ) → (sockets : List Socket) → bytes_eq id other ≡ false
    → socket_of other (taken id sockets) ≡ socket_of other sockets

-- and changes nothing of any socket but its messages
abbrev pub ReadingChangesMessagesAlone : Type 0
ReadingChangesMessagesAlone = (id : List ℕ) → (sockets : List Socket)
    → map emptied (taken id sockets) ≡ map emptied sockets

-- not even its count of losses
abbrev pub ReadingKeepsCount : Type 0
ReadingKeepsCount = (id other : List ℕ) → (sockets : List Socket)
    → lost_of other (taken id sockets) ≡ lost_of other sockets

-- a socket without its messages and its count
abbrev pub bare : Socket → Socket
bare s = record s { messages = []; lost = 0 }

-- a delivery changes nothing of any socket but its messages and its count
abbrev pub DeliveringChangesKeptAlone : Type 0
DeliveringChangesKeptAlone = (message : List ℕ) → (family : ℕ) → (own : Option (List ℕ)) → (sockets : List Socket)
    → map bare (delivered message family own sockets) ≡ map bare sockets

-- the message is the last of those that wait, whole, and none was lost
abbrev pub IsAppended : List ℕ → Socket → Socket → Type 0
IsAppended message before after = (after.messages ≡ before.messages ++ message ∷ []) × (after.lost ≡ before.lost)

-- the messages that wait are the same, and one more was lost
abbrev pub IsLost : Socket → Socket → Type 0
IsLost before after = (after.messages ≡ before.messages) × (after.lost ≡ one_more before.lost)

-- what a socket doesn't hear changes nothing of it
abbrev pub UnheardChangesNothing : Type 0
UnheardChangesNothing = (message : List ℕ) → (family : ℕ) → (own : Option (List ℕ)) → (s : Socket)
    → hears family own s ≡ false → after_delivery message family own s ≡ s

-- a message that it hears is appended whole where it fits, and else lost
abbrev pub HeardIsAppendedOrLost : Type 0
HeardIsAppendedOrLost = (message : List ℕ) → (family : ℕ) → (own : Option (List ℕ)) → (s : Socket)
    → hears family own s ≡ true
    → (queued s + length message ≤ MOST_QUEUED → IsAppended message s (after_delivery message family own s))
    × (MOST_QUEUED < queued s + length message → IsLost s (after_delivery message family own s))

-- the count rises by one, and stays at the greatest number that it can be
abbrev pub CountInWords : Type 0
CountInWords = ((lost : ℕ) → lost < 2 ^ 64 - 1 → one_more lost ≡ lost + 1) × (one_more (2 ^ 64 - 1) ≡ 2 ^ 64 - 1)

-- what becomes of a socket doesn't depend on the others: not on their queues, and not on whether they lose the message
abbrev pub LossIsSeenNowhereElse : Type 0
LossIsSeenNowhereElse = (message : List ℕ) → (family : ℕ) → (own : Option (List ℕ)) → (id : List ℕ)
    → (these those : List Socket) → socket_of id these ≡ socket_of id those
    → socket_of id (delivered message family own these) ≡ socket_of id (delivered message family own those)

-- whatever is done, the messages that wait for a socket have not more bytes than it has memory for
abbrev pub NoneAreBounded : Type 0
NoneAreBounded = AreBounded []

abbrev pub OpeningKeepsBound : Type 0
OpeningKeepsBound = (id : List ℕ) → (pid protocol : ℕ) → (sockets : List Socket)
    → AreBounded sockets → AreBounded (sockets ++ opened id pid protocol ∷ [])

abbrev pub ClosingKeepsBound : Type 0
ClosingKeepsBound = (id : List ℕ) → (sockets : List Socket) → AreBounded sockets → AreBounded (without id sockets)

abbrev pub LoopbackKeepsBound : Type 0
LoopbackKeepsBound = (id : List ℕ) → (on : Bool) → (sockets : List Socket)
    → AreBounded sockets → AreBounded (with_loopback id on sockets)

abbrev pub ReadingKeepsBound : Type 0
ReadingKeepsBound = (id : List ℕ) → (sockets : List Socket) → AreBounded sockets → AreBounded (taken id sockets)

abbrev pub DeliveringKeepsBound : Type 0
DeliveringKeepsBound = (message : List ℕ) → (family : ℕ) → (own : Option (List ℕ)) → (sockets : List Socket)
    → AreBounded sockets → AreBounded (delivered message family own sockets)

-- a socket that was closed isn't open
abbrev pub ClosedIsGone : Type 0
ClosedIsGone = (id : List ℕ) → (sockets : List Socket) → socket_of id (without id sockets) ≡ None

-- and leaves every other as it was
abbrev pub ClosingDisturbsNoOther : Type 0
ClosingDisturbsNoOther = (id other : List ℕ) → (sockets : List Socket) → bytes_eq id other ≡ false
    → socket_of other (without id sockets) ≡ socket_of other sockets

-- one that is opened with its id again is as any that is opened, without a message, and none was lost
abbrev pub ReopenedIsEmpty : Type 0
ReopenedIsEmpty = (id : List ℕ) → (pid protocol : ℕ) → (sockets : List Socket)
    → socket_of id (without id sockets ++ opened id pid protocol ∷ []) ≡ Some (opened id pid protocol)

-- loopback is on or off once it was turned so
abbrev pub LoopbackIsSet : Type 0
LoopbackIsSet = (id : List ℕ) → (on : Bool) → (sockets : List Socket)
    → socket_of id (with_loopback id on sockets) ≡ option_map (looped on) (socket_of id sockets)

-- every other socket is left as it was
abbrev pub LoopbackDisturbsNoOther : Type 0
LoopbackDisturbsNoOther = (id other : List ℕ) → (on : Bool) → (sockets : List Socket) → bytes_eq id other ≡ false
    → socket_of other (with_loopback id on sockets) ≡ socket_of other sockets

-- and nothing of any socket changes but loopback
abbrev pub LoopbackChangesItAlone : Type 0
LoopbackChangesItAlone = (id : List ℕ) → (on : Bool) → (sockets : List Socket)
    → map (looped true) (with_loopback id on sockets) ≡ map (looped true) sockets

-- a message that is no reply is heard where the socket hears all families or that one
abbrev pub HearsInWords : Type 0
HearsInWords = (family : ℕ) → (s : Socket) → IsTrue (hears family None s) ↔ ((s.protocol ≡ 0) ⊎ (s.protocol ≡ family))

-- with loopback off the reply to an own write isn't heard
abbrev pub LoopbackOffSilencesOwn : Type 0
LoopbackOffSilencesOwn = (family : ℕ) → (s : Socket) → hears family (Some s.id) (looped false s) ≡ false

-- all else is heard as with loopback on
abbrev pub LoopbackLeavesOthers : Type 0
LoopbackLeavesOthers = (family : ℕ) → (own : Option (List ℕ)) → (s : Socket) → (on : Bool) → is_own s.id own ≡ false
    → hears family own (looped on s) ≡ hears family None s

-- the others hear a message whether a socket is closed before or after
abbrev pub DeliversWithoutClosed : Type 0
DeliversWithoutClosed = (message : List ℕ) → (family : ℕ) → (own : Option (List ℕ)) → (id : List ℕ)
    → (sockets : List Socket)
    → delivered message family own (without id sockets) ≡ without id (delivered message family own sockets)

-- and whether a socket has loopback on or off
abbrev pub DeliversWhateverLoopback : Type 0
DeliversWhateverLoopback = (message : List ℕ) → (family : ℕ) → (own : Option (List ℕ)) → (id other : List ℕ)
    → (on : Bool) → (sockets : List Socket) → bytes_eq id other ≡ false
    → socket_of other (delivered message family own (with_loopback id on sockets))
    ≡ socket_of other (delivered message family own sockets)

-- how many sockets may be open, and how many bytes of messages may wait for one
abbrev pub MostByNumber : Type 0
MostByNumber = (MOST_SOCKETS ≡ 64) × (MOST_QUEUED ≡ 8192)
