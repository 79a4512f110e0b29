-- How a line begins, and which words each verb has behind it.
use Rattle.std.specs.Prelude.{ℕ, if◌then◌else◌, List, [], ◌∷◌, codes, bytes_eq, Option, Some, None}
use Rattle.line_faults.specs.declared.verbs.Verb.{Verb}
use Rattle.line_faults.specs.declared.verbs.Verb.TheVariants.{If, Addr, Unaddr, Open, Loopback, Close, Read, Lost, Write, Route, Packet, Redirect, Losing, Dump, Flags}
use Rattle.line_faults.specs.declared.kinds.WordKind.{WordKind}
use Rattle.line_faults.specs.declared.kinds.WordKind.TheVariants.{InterfaceName, SocketId, InterfaceKind, TypeNumber, LinkBytes, Address, AddressPrefix, Pid, Protocol, Switch, Written, SequenceNumber, RouteVerb, Destination, FlagBits, DumpRoom}

-- every verb
abbrev pub all_verbs : List Verb
all_verbs = If ∷ Addr ∷ Unaddr ∷ Open ∷ Loopback ∷ Close ∷ Read ∷ Lost ∷ Write ∷ Route ∷ Packet ∷ Redirect ∷ Losing
    ∷ Dump ∷ Flags ∷ []

-- the word that it is
abbrev pub verb_text : Verb → List ℕ
verb_text If = codes "if"
verb_text Addr = codes "addr"
verb_text Unaddr = codes "unaddr"
verb_text Open = codes "open"
verb_text Loopback = codes "loopback"
verb_text Close = codes "close"
verb_text Read = codes "read"
verb_text Lost = codes "lost"
verb_text Write = codes "write"
verb_text Route = codes "route"
verb_text Packet = codes "packet"
verb_text Redirect = codes "redirect"
verb_text Losing = codes "losing"
verb_text Dump = codes "dump"
verb_text Flags = codes "flags"

-- the first of these verbs that the word is
abbrev pub verb_among : List Verb → List ℕ → Option Verb
verb_among [] word = None
verb_among (verb ∷ verbs) word = if bytes_eq word (verb_text verb) then Some verb else verb_among verbs word

abbrev pub verb_of : List ℕ → Option Verb
verb_of word = verb_among all_verbs word

-- the words that have to stand behind it
abbrev pub words_of : Verb → List WordKind
words_of If = InterfaceName ∷ InterfaceKind ∷ TypeNumber ∷ LinkBytes ∷ []
words_of Addr = InterfaceName ∷ AddressPrefix ∷ []
words_of Unaddr = InterfaceName ∷ Address ∷ []
words_of Open = SocketId ∷ Pid ∷ Protocol ∷ []
words_of Loopback = SocketId ∷ Switch ∷ []
words_of Close = SocketId ∷ []
words_of Read = SocketId ∷ []
words_of Lost = SocketId ∷ []
words_of Write = SocketId ∷ Written ∷ []
words_of Route = SocketId ∷ SequenceNumber ∷ RouteVerb ∷ Destination ∷ []
words_of Packet = Address ∷ []
words_of Redirect = Address ∷ Address ∷ Address ∷ []
words_of Losing = Address ∷ []
words_of Dump = DumpRoom ∷ []
words_of Flags = FlagBits ∷ DumpRoom ∷ []
