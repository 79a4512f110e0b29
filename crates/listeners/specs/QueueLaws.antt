-- What follows from the definitions of messages as bytes.
use Rattle.std.specs.Prelude.{◌≡◌, ℕ, List}
use Rattle.std.specs.List.{AllByRecursion}
use Rattle.listeners.specs.Queue.{IsMessage, joined, cut, AreMessages}

-- messages that are joined and cut again are the same messages
abbrev pub JoinedIsCut : Type 0
JoinedIsCut = (messages : List (List ℕ)) → AllByRecursion IsMessage messages → cut (joined messages) ≡ messages

-- the bytes of messages are whole messages
abbrev pub JoinedAreMessages : Type 0
JoinedAreMessages = (messages : List (List ℕ)) → AllByRecursion IsMessage messages → AreMessages (joined messages)
