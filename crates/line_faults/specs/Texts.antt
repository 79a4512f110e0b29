-- What people are told.
use Rattle.std.specs.Prelude.{ℕ, List, [], ◌∷◌, ◌++◌, codes, map}
use Rattle.line_faults.specs.Verbs.{all_verbs}
use Rattle.line_faults.specs.Options.{option_text, options_from}
use Rattle.line_faults.specs.declared.verbs.Verb.{Verb as VerbWord}
use Rattle.line_faults.specs.declared.verbs.Verb.TheVariants as verb
use Rattle.line_faults.specs.declared.kinds.WordKind.{WordKind}
use Rattle.line_faults.specs.declared.kinds.WordKind.TheVariants.{InterfaceName, SocketId, InterfaceKind, TypeNumber, LinkBytes, Address, AddressPrefix, Pid, Protocol, Switch, Written, SequenceNumber, RouteVerb, Destination, Gateway, MaskLength, InterfaceAddress, FlagBits, Bits, Metric, DumpRoom}
use Rattle.line_faults.specs.declared.options.RouteOption.{RouteOption}
use Rattle.line_faults.specs.declared.options.RouteOption.TheVariants as option
use Rattle.line_faults.specs.declared.wanted.Wanted.{Wanted}
use Rattle.line_faults.specs.declared.wanted.Wanted.TheVariants.{Verb, Word, ToOrCloning, Cloning, Options, NothingMore, ShorterLine}

-- words with `, ` between them
abbrev pub listed : List (List ℕ) → List ℕ
listed [] = []
listed (word ∷ []) = word
listed (word ∷ words) = word ++ codes ", " ++ listed words

-- the options from this one on, one of which may come
abbrev pub options_text : RouteOption → List ℕ
options_text option.Rttvar = codes "rttvar, or nothing more"
options_text o = codes "nothing more, or of these, in this order: " ++ listed (map option_text (options_from o))

-- the kind of a word
abbrev pub kind_text : WordKind → List ℕ
kind_text InterfaceName = codes "an interface's name: 1 to 8 of a to z and 0 to 9"
kind_text SocketId = codes "a socket's id: 1 to 8 of a to z and 0 to 9"
kind_text InterfaceKind = codes "one of broadcast, loopback, ptp"
kind_text TypeNumber = codes "the interface's type: a number from 0 to 255"
kind_text LinkBytes = codes "a link-layer address: 1 to 8 bytes in hexadecimal, or - for none"
kind_text Address = codes "an IPv4 address, as 10.0.0.1"
kind_text AddressPrefix = codes "an address and its prefix's length, as 10.0.0.1/8"
kind_text Pid = codes "a process id: a number from 0 to 4294967295"
kind_text Protocol = codes "a protocol: any, or an address family's number from 1 to 255, as 2 for IPv4"
kind_text Switch = codes "on or off"
kind_text Written = codes "a message: at most 8246 bytes in hexadecimal, or - for none"
kind_text SequenceNumber = codes "a sequence number: from 0 to 4294967295"
kind_text RouteVerb = codes "one of add, delete, change, get, lock"
kind_text Destination = codes "a destination: an address as 10.0.0.1, a network as 10.0.0.0/8, or default"
kind_text Gateway = codes "a gateway: an IPv4 address, or link: and the 8 to 32 bytes of a sockaddr_dl in hexadecimal"
kind_text MaskLength = codes "a mask's length: a number from 0 to 32"
kind_text InterfaceAddress =
    codes "an interface: an IPv4 address, or link: and the 8 to 32 bytes of a sockaddr_dl in hexadecimal"
kind_text FlagBits = codes "flags: their names, as UP,GATEWAY, or 1 to 8 hexadecimal digits"
kind_text Bits = codes "bits: 1 to 8 hexadecimal digits"
kind_text Metric = codes "a metric: a number from 0 to 4294967295"
kind_text DumpRoom = codes "ask, all, or how many bytes there is room for: a number from 0 to 4294967295"

-- what is wanted
abbrev pub wanted_text : Wanted → List ℕ
wanted_text Verb = codes "one of if, addr, unaddr, open, loopback, close, read, lost, write, route, packet, redirect, losing, dump, flags; ?help tells of them"
wanted_text (Word kind) = kind_text kind
wanted_text ToOrCloning = codes "to and an address, cloning, or nothing more"
wanted_text Cloning = codes "cloning, or nothing more"
wanted_text (Options o) = options_text o
wanted_text NothingMore = codes "nothing more"
wanted_text ShorterLine = codes "a line of at most 16500 bytes"

-- how a line with this verb is written, and what it does
abbrev pub usage_text : VerbWord → List ℕ
usage_text verb.If = codes "if NAME broadcast|loopback|ptp TYPE HEX: attaches an interface"
usage_text verb.Addr = codes "addr NAME A/P [to A] [cloning]: gives an interface an address"
usage_text verb.Unaddr = codes "unaddr NAME A: removes an address of an interface"
usage_text verb.Open = codes "open ID PID any|PROTOCOL: opens a routing socket"
usage_text verb.Loopback = codes "loopback ID on|off: whether a socket hears the replies to its own writes"
usage_text verb.Close = codes "close ID: closes a socket"
usage_text verb.Read = codes "read ID: takes the messages that wait for a socket"
usage_text verb.Lost = codes "lost ID: how many messages a socket has lost"
usage_text verb.Write = codes "write ID HEX: writes bytes to a socket"
usage_text verb.Route = codes "route ID SEQ VERB DEST [OPTION WORD]..: writes the message of these words to a socket"
usage_text verb.Packet = codes "packet A: looks up the route of a packet to an address"
usage_text verb.Redirect = codes "redirect A GATEWAY AUTHOR: follows a redirect of an address to a gateway"
usage_text verb.Losing =
    codes "losing A: tells that the route of an address seems dead, and takes it away if a redirect made it"
usage_text verb.Dump = codes "dump ask|all|N: dumps the table into N bytes, or says how many to ask for"
usage_text verb.Flags = codes "flags FLAGS ask|all|N: the same of the routes that have one of these flags"

-- of these verbs, each with a newline behind it
abbrev pub usages_of : List VerbWord → List ℕ
usages_of [] = []
usages_of (verb ∷ verbs) = usage_text verb ++ codes "\n" ++ usages_of verbs

abbrev pub all_usages : List ℕ
all_usages = usages_of all_verbs
