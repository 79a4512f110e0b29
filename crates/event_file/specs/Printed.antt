-- The plain line of each command, and which commands have one.
use Rattle.std.specs.Prelude.{◌≡◌, ℕ, ◌+◌, ◌*◌, ◌^◌, ◌<◌, ◌≤◌, ◌==◌, if◌then◌else◌, Bool, true, false, List, [], ◌∷◌, ◌++◌, length, map, codes, decimal, Option, Some, None}
use Rattle.std.specs.Int.{w32, to_be_bytes}
use Rattle.std.specs.Option.{IfSome}
use Rattle.std.specs.List.{join_with_byte, list_all}
use Rattle.hex.specs.Hex.{IsBytes, encode_lower}
use Rattle.event_file.specs.Words.{is_name_byte}
use Rattle.event_file.specs.Grammar.{command_of, most_link_bytes}
use Rattle.event_file.specs.Lines.{most_line_bytes}
use Rattle.route_core.specs.Commands.{Command}
use Rattle.route_core.specs.declared.command.Command.TheVariants.{Attach, AddAddress, RemoveAddress, Open, Close, Loopback, Write, Read, Lost, Packet, Redirect, Losing, DumpSize, Dump}
use Rattle.if_addrs.specs.declared.kind.Kind.{Kind}
use Rattle.if_addrs.specs.declared.kind.Kind.TheVariants.{Broadcast, Loopback as LoopbackKind, PointToPoint}

-- ---- lines

-- bytes as pairs of hexadecimal digits, and `-` where there is none
abbrev pub bytes_word : List ℕ → List ℕ
bytes_word [] = codes "-"
bytes_word (b ∷ bs) = encode_lower (b ∷ bs)

-- an IPv4 address as `10.0.0.1`: its four bytes in decimal with dots between them
abbrev pub inet_word : ℕ → List ℕ
inet_word address = join_with_byte 46 (map decimal (to_be_bytes w32 address))

-- `A/P`
abbrev pub network_word : ℕ → ℕ → List ℕ
network_word address prefix = join_with_byte 47 (inet_word address ∷ decimal prefix ∷ [])

abbrev pub kind_word : Kind → List ℕ
kind_word Broadcast = codes "broadcast"
kind_word LoopbackKind = codes "loopback"
kind_word PointToPoint = codes "ptp"

-- `to A`, where there is another end
abbrev pub far_words : Option ℕ → List (List ℕ)
far_words None = []
far_words (Some far) = codes "to" ∷ inet_word far ∷ []

abbrev pub cloning_words : Bool → List (List ℕ)
cloning_words false = []
cloning_words true = codes "cloning" ∷ []

-- `any` for 0
abbrev pub protocol_word : ℕ → List ℕ
protocol_word protocol = if protocol == 0 then codes "any" else decimal protocol

abbrev pub switch_word : Bool → List ℕ
switch_word true = codes "on"
switch_word false = codes "off"

-- a number in eight hexadecimal digits
abbrev pub hex_word : ℕ → List ℕ
hex_word n = encode_lower (to_be_bytes w32 n)

-- of all routes, or of those that have one of these flags
abbrev pub filter_words : Option ℕ → List (List ℕ)
filter_words None = codes "dump" ∷ []
filter_words (Some flags) = codes "flags" ∷ hex_word flags ∷ []

abbrev pub words_of : Command → List (List ℕ)
words_of (Attach name kind type_number link) =
    codes "if" ∷ name ∷ kind_word kind ∷ decimal type_number ∷ bytes_word link ∷ []
words_of (AddAddress name address prefix cloning far) =
    codes "addr" ∷ name ∷ network_word address prefix ∷ (far_words far ++ cloning_words cloning)
words_of (RemoveAddress name address) = codes "unaddr" ∷ name ∷ inet_word address ∷ []
words_of (Open id pid protocol) = codes "open" ∷ id ∷ decimal pid ∷ protocol_word protocol ∷ []
words_of (Close id) = codes "close" ∷ id ∷ []
words_of (Loopback id on) = codes "loopback" ∷ id ∷ switch_word on ∷ []
words_of (Write id bytes) = codes "write" ∷ id ∷ bytes_word bytes ∷ []
words_of (Read id) = codes "read" ∷ id ∷ []
words_of (Lost id) = codes "lost" ∷ id ∷ []
words_of (Packet destination) = codes "packet" ∷ inet_word destination ∷ []
words_of (Redirect asked) =
    codes "redirect" ∷ inet_word asked.destination ∷ inet_word asked.gateway ∷ inet_word asked.author ∷ []
words_of (Losing destination) = codes "losing" ∷ inet_word destination ∷ []
words_of (DumpSize filter) = filter_words filter ++ codes "ask" ∷ []
words_of (Dump filter room) = filter_words filter ++ decimal room ∷ []

-- a command's words with single spaces between them
abbrev pub line_of : Command → List ℕ
line_of command = join_with_byte 32 (words_of command)

-- ---- the bounds of the grammar

-- 1 to 8 letters and digits
abbrev pub IsName : List ℕ → Type 0
IsName name = (1 ≤ length name) × (length name ≤ 8) × (list_all is_name_byte name ≡ true)

-- names, numbers in their ranges and at most so many bytes; and a write of no more bytes than a line has room for
-- behind `write ID `
abbrev pub IsWithinBounds : Command → Type 0
IsWithinBounds (Attach name kind type_number link) =
    IsName name × (type_number ≤ 255) × (length link ≤ most_link_bytes) × IsBytes link
IsWithinBounds (AddAddress name address prefix cloning far) =
    IsName name × (address < 2 ^ 32) × (prefix ≤ 32) × IfSome far (λ a. a < 2 ^ 32)
IsWithinBounds (RemoveAddress name address) = IsName name × (address < 2 ^ 32)
IsWithinBounds (Open id pid protocol) = IsName id × (pid < 2 ^ 32) × (protocol ≤ 255)
IsWithinBounds (Close id) = IsName id
IsWithinBounds (Loopback id on) = IsName id
IsWithinBounds (Write id bytes) = IsName id × (7 + length id + 2 * length bytes ≤ most_line_bytes) × IsBytes bytes
IsWithinBounds (Read id) = IsName id
IsWithinBounds (Lost id) = IsName id
IsWithinBounds (Packet destination) = destination < 2 ^ 32
IsWithinBounds (Redirect asked) = (asked.destination < 2 ^ 32) × (asked.gateway < 2 ^ 32) × (asked.author < 2 ^ 32)
IsWithinBounds (Losing destination) = destination < 2 ^ 32
IsWithinBounds (DumpSize filter) = IfSome filter (λ flags. flags < 2 ^ 32)
IsWithinBounds (Dump filter room) = IfSome filter (λ flags. flags < 2 ^ 32) × (room < 2 ^ 32)

-- what is printed of a command within the bounds is read as that command
abbrev pub PrintedIsRead : Type 0
PrintedIsRead = (command : Command) → IsWithinBounds command → command_of (line_of command) ≡ Some command

-- and has no more bytes than a line may have
abbrev pub PrintedFits : Type 0
PrintedFits = (command : Command) → IsWithinBounds command → length (line_of command) ≤ most_line_bytes

-- every command that some line says is within the bounds
abbrev pub ReadIsWithinBounds : Type 0
ReadIsWithinBounds = (line : List ℕ) (command : Command) → command_of line ≡ Some command → IsWithinBounds command
