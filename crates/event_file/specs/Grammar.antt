-- The lines of a script: which command each says, if any.
use Prim.Native.String.{String}
use Rattle.std.specs.Prelude.{ℕ, nat_lt, Bool, true, false, if◌then◌else◌, List, [], ◌∷◌, length, codes, bytes_eq, Option, Some, None}
use Rattle.event_file.specs.Lines.{most_line_bytes}
use Rattle.event_file.specs.RouteLine.{message_of}
use Rattle.event_file.specs.Words.{◌>>=◌, parted_by, name_of, number_to, bytes_to, hex_number_of, inet_of, interface_kind_of, protocol_of, switch_of, option_written, words_behind, if_written}
use Rattle.route_core.specs.Commands.{Command}
use Rattle.route_core.specs.declared.command.Command.TheVariants.{Attach, AddAddress, RemoveAddress, Open, Close, Loopback, Write, Read, Lost, Packet, Redirect, Losing, DumpSize, Dump}
use Rattle.route_core.specs.declared.written.TheConstants.{MOST_WRITTEN}

-- a link-layer address has at most 8 bytes
abbrev pub most_link_bytes : ℕ
most_link_bytes = 8

-- `NAME KIND T HEX`, behind `if`
abbrev pub attach_form : List (List ℕ) → Option Command
attach_form (name ∷ kind ∷ type ∷ link ∷ []) = do
  name ← name_of name
  kind ← interface_kind_of kind
  type_number ← number_to 255 type
  link ← bytes_to most_link_bytes link
  Some (Attach name kind type_number link)
attach_form words = None

-- the address of the other end, where it is written
abbrev pub inet_if_written : Option (List ℕ) → Option (Option ℕ)
inet_if_written word = if_written inet_of word

-- whether an address's route clones, by the last words
abbrev pub cloning_of : List (List ℕ) → Option Bool
cloning_of [] = Some false
cloning_of (option ∷ []) = if bytes_eq option (codes "cloning") then Some true else None
cloning_of options = None

-- `NAME A/P`, by the parts of A/P
abbrev pub address_of_parts : List ℕ → List (List ℕ) → Bool → Option ℕ → Option Command
address_of_parts name (address ∷ prefix ∷ []) cloning far = do
  name ← name_of name
  address ← inet_of address
  prefix ← number_to 32 prefix
  Some (AddAddress name address prefix cloning far)
address_of_parts name parts cloning far = None

-- `NAME A/P`, and behind it `to A` and `cloning`, each where it is written; behind `addr`
abbrev pub add_address_form : List (List ℕ) → Option Command
add_address_form (name ∷ address ∷ options) = do
  far ← inet_if_written (option_written (codes "to") options)
  cloning ← cloning_of (words_behind (codes "to") options)
  address_of_parts name (parted_by 47 address) cloning far
add_address_form words = None

-- `NAME A`, behind `unaddr`
abbrev pub remove_address_form : List (List ℕ) → Option Command
remove_address_form (name ∷ address ∷ []) = do
  name ← name_of name
  address ← inet_of address
  Some (RemoveAddress name address)
remove_address_form words = None

-- `ID PID PROTOCOL`, behind `open`
abbrev pub open_form : List (List ℕ) → Option Command
open_form (id ∷ pid ∷ protocol ∷ []) = do
  id ← name_of id
  pid ← number_to 4294967295 pid
  protocol ← protocol_of protocol
  Some (Open id pid protocol)
open_form words = None

-- `ID on` and `ID off`, behind `loopback`
abbrev pub loopback_form : List (List ℕ) → Option Command
loopback_form (id ∷ switch ∷ []) = do
  id ← name_of id
  on ← switch_of switch
  Some (Loopback id on)
loopback_form words = None

-- `ID`, behind `close`
abbrev pub close_form : List (List ℕ) → Option Command
close_form (id ∷ []) = do
  id ← name_of id
  Some (Close id)
close_form words = None

-- `ID HEX`, behind `write`
abbrev pub write_form : List (List ℕ) → Option Command
write_form (id ∷ bytes ∷ []) = do
  id ← name_of id
  bytes ← bytes_to MOST_WRITTEN bytes
  Some (Write id bytes)
write_form words = None

-- `ID SEQ VERB DEST OPTION..`, behind `route`: a write of the message that the words behind the id compose
abbrev pub route_form : List (List ℕ) → Option Command
route_form [] = None
route_form (id ∷ words) = do
  id ← name_of id
  message ← message_of words
  Some (Write id message)

-- `ID`, behind `read`
abbrev pub read_form : List (List ℕ) → Option Command
read_form (id ∷ []) = do
  id ← name_of id
  Some (Read id)
read_form words = None

-- `ID`, behind `lost`
abbrev pub lost_form : List (List ℕ) → Option Command
lost_form (id ∷ []) = do
  id ← name_of id
  Some (Lost id)
lost_form words = None

-- `A`, behind `packet`
abbrev pub packet_form : List (List ℕ) → Option Command
packet_form (destination ∷ []) = do
  destination ← inet_of destination
  Some (Packet destination)
packet_form words = None

-- the redirect of a destination to a gateway by an author
abbrev pub redirect_of : List ℕ → List ℕ → List ℕ → Option Command
redirect_of destination gateway author = do
  destination ← inet_of destination
  gateway ← inet_of gateway
  author ← inet_of author
  Some (Redirect (record { destination = destination; gateway = gateway; author = author }))

-- `A A A`, behind `redirect`: the destination, the gateway that it is reached by, and who says so
abbrev pub redirect_form : List (List ℕ) → Option Command
redirect_form (destination ∷ gateway ∷ author ∷ []) = redirect_of destination gateway author
redirect_form words = None

-- `A`, behind `losing`
abbrev pub losing_form : List (List ℕ) → Option Command
losing_form (destination ∷ []) = do
  destination ← inet_of destination
  Some (Losing destination)
losing_form words = None

-- `N`: a dump into so many bytes
abbrev pub dump_into : Option ℕ → List ℕ → Option Command
dump_into filter word = do
  room ← number_to 4294967295 word
  Some (Dump filter room)

-- `ask` or `N`, of the routes that the filter lets through
abbrev pub dump_of : Option ℕ → List ℕ → Option Command
dump_of filter word = if bytes_eq word (codes "ask") then Some (DumpSize filter) else dump_into filter word

-- `ask` or `N`, behind `dump`: of all routes
abbrev pub dump_form : List (List ℕ) → Option Command
dump_form (word ∷ []) = dump_of None word
dump_form words = None

-- `X ask` or `X N`, behind `flags`: of the routes that have a flag of X
abbrev pub flags_form : List (List ℕ) → Option Command
flags_form (flags ∷ word ∷ []) = do
  flags ← hex_number_of flags
  dump_of (Some flags) word
flags_form words = None

-- a command's verb, and what the words behind it say
pub record Form : Type 0 where
  pub verb : String
  pub says : List (List ℕ) → Option Command

abbrev pub form : String → (List (List ℕ) → Option Command) → Form
form verb says = record { verb = verb; says = says }

-- the commands on the routes
abbrev pub route_forms : List Form
route_forms = form "write" write_form
    ∷ form "route" route_form
    ∷ form "packet" packet_form
    ∷ form "redirect" redirect_form
    ∷ form "losing" losing_form
    ∷ form "dump" dump_form
    ∷ form "flags" flags_form
    ∷ []

-- every command that the grammar has: those on interfaces and sockets, and those on the routes
abbrev pub forms : List Form
forms = form "if" attach_form
    ∷ form "addr" add_address_form
    ∷ form "unaddr" remove_address_form
    ∷ form "open" open_form
    ∷ form "loopback" loopback_form
    ∷ form "close" close_form
    ∷ form "read" read_form
    ∷ form "lost" lost_form
    ∷ route_forms

-- the words as the form of this verb reads them
abbrev pub by_forms : List Form → List ℕ → List (List ℕ) → Option Command
by_forms [] verb words = None
by_forms (f ∷ fs) verb words = if bytes_eq verb (codes f.verb) then f.says words else by_forms fs verb words

-- the first word chooses the form
abbrev pub said_by : List (List ℕ) → Option Command
said_by [] = None
said_by (verb ∷ words) = by_forms forms verb words

-- the command that a line says: its words are parted by single spaces
abbrev pub command_of : List ℕ → Option Command
command_of line = if nat_lt most_line_bytes (length line) then None else said_by (parted_by 32 line)
