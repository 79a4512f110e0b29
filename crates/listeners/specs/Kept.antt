-- What one socket has of the messages that it heard, as a function of them and of its own reads alone.
use Rattle.std.specs.Prelude.{◌≡◌, ℕ, ◌+◌, ◌-◌, ◌^◌, ◌≤◌, Bool, List, [], ◌∷◌, ◌++◌, length, map, Option, if◌then◌else◌, ◌⊎◌, ⊤}
use Rattle.listeners.specs.declared.limits.TheConstants.{MOST_QUEUED}
use Rattle.listeners.specs.Queue.{fits, joined, one_more}
use Rattle.listeners.specs.Sockets.{Socket, after_delivery, emptied, hears, looped, opened}

-- the messages that wait for it, the oldest first, and how many were lost
pub record Kept : Type 0 where
  pub messages : List (List ℕ)
  pub lost : ℕ

abbrev pub kept : Socket → Kept
kept s = record { messages = s.messages; lost = s.lost }

abbrev pub nothing_kept : Kept
nothing_kept = record { messages = []; lost = 0 }

-- what changes it: a message that the socket hears, and its own read
pub data Event : Type 0 where
  Heard : List ℕ → Event
  Read : Event

abbrev pub after_event : Event → Kept → Kept
after_event (Heard message) k =
    if fits k.messages message then record k { messages = k.messages ++ message ∷ [] }
    else record k { lost = one_more k.lost }
after_event Read k = record k { messages = [] }

-- after these, the first of them first
abbrev pub after_events : List Event → Kept → Kept
after_events [] k = k
after_events (e ∷ es) k = after_events es (after_event e k)

-- what was heard since the last read, where so much was heard before
abbrev pub heard_since : List (List ℕ) → List Event → List (List ℕ)
heard_since before [] = before
heard_since before (Heard message ∷ es) = heard_since (before ++ message ∷ []) es
heard_since before (Read ∷ es) = heard_since [] es

-- a message that is delivered
pub record Delivery : Type 0 where
  pub message : List ℕ
  pub family : ℕ
  pub own : Option (List ℕ)

-- a socket after these were delivered
abbrev pub after_deliveries : List Delivery → Socket → Socket
after_deliveries [] s = s
after_deliveries (d ∷ ds) s = after_deliveries ds (after_delivery d.message d.family d.own s)

-- those of them that it hears
abbrev pub heard_of : List Delivery → Socket → List Event
heard_of [] s = []
heard_of (d ∷ ds) s = if hears d.family d.own s then Heard d.message ∷ heard_of ds s else heard_of ds s

-- these are some of those, in their order
abbrev pub IsSublist : List (List ℕ) → List (List ℕ) → Type 0
IsSublist [] [] = ⊤
IsSublist (x ∷ xs) [] = ⊥
IsSublist [] (y ∷ ys) = ⊤
IsSublist (x ∷ xs) (y ∷ ys) = ((x ≡ y) × IsSublist xs ys) ⊎ IsSublist (x ∷ xs) ys

-- a socket that is opened has nothing
abbrev pub OpenedKeepsNothing : Type 0
OpenedKeepsNothing = (id : List ℕ) → (pid protocol : ℕ) → kept (opened id pid protocol) ≡ nothing_kept

-- what is delivered changes what it has by what it hears alone
abbrev pub DeliveriesAreEvents : Type 0
DeliveriesAreEvents = (deliveries : List Delivery) → (s : Socket)
    → kept (after_deliveries deliveries s) ≡ after_events (heard_of deliveries s) (kept s)

-- its read is the other event, and loopback is none
abbrev pub ReadingIsAnEvent : Type 0
ReadingIsAnEvent = (s : Socket) → kept (emptied s) ≡ after_event Read (kept s)

abbrev pub LoopbackIsNoEvent : Type 0
LoopbackIsNoEvent = (on : Bool) → (s : Socket) → kept (looped on s) ≡ kept s

-- what waits is a sublist of what was heard since the last read: in its order, each message whole
abbrev pub KeptAreHeard : Type 0
KeptAreHeard = (events : List Event) → IsSublist (after_events events nothing_kept).messages (heard_since [] events)

-- in not more bytes than there is memory for
abbrev pub KeptIsBounded : Type 0
KeptIsBounded = (events : List Event) → length (joined (after_events events nothing_kept).messages) ≤ MOST_QUEUED

-- each message that is heard is kept or counted
abbrev pub KeptOrCounted : Type 0
KeptOrCounted = (messages : List (List ℕ)) → (k : Kept) → k.lost + length messages ≤ 2 ^ 64 - 1
    → let after = after_events (map (λ m. Heard m) messages) k in
    length after.messages + after.lost ≡ length k.messages + k.lost + length messages

-- and the events may be taken in parts
abbrev pub EventsInParts : Type 0
EventsInParts = (first later : List Event) → (k : Kept)
    → after_events (first ++ later) k ≡ after_events later (after_events first k)
