-- The interfaces with their addresses, in words.
use Rattle.std.specs.Prelude.{ℕ, ◌==◌, Bool, true, false, if◌then◌else◌, List, [], ◌++◌, length, codes, decimal, filter, flat_map, Option, Some, None}
use Rattle.std.specs.List.{range_with_len}
use Rattle.std.specs.Option.{option_map_or}
use Rattle.hex.specs.Hex.{encode_lower}
use Rattle.event_file.specs.Printed.{inet_word}
use Rattle.if_addrs.specs.Facts.{facts_of}
use Rattle.if_addrs.specs.Interfaces.{Address, Interface, interface_numbered}
use Rattle.if_addrs.specs.Told.{interface_told, is_standing}
use Rattle.if_addrs.specs.declared.kind.Kind.{Kind}
use Rattle.if_addrs.specs.declared.kind.Kind.TheVariants.{Broadcast, Loopback, PointToPoint}
use Rattle.if_addrs.specs.declared.reference.Facts.{Facts}
use Rattle.if_addrs.specs.declared.told.InterfaceTold.{InterfaceTold}
use Rattle.route_core.specs.World.{World}

abbrev pub kind_words : Kind → List ℕ
kind_words Broadcast = codes "broadcast"
kind_words Loopback = codes "loopback"
kind_words PointToPoint = codes "point-to-point"

-- a link-layer address, where there is one
abbrev pub link_words : List ℕ → List ℕ
link_words bytes = if length bytes == 0 then codes "none" else encode_lower bytes

-- its number, its name, and what it is
abbrev pub who_words : ℕ → InterfaceTold → List ℕ
who_words index i = decimal index ++ codes " " ++ i.name ++ codes ": " ++ kind_words i.kind ++ codes ", type "

-- the number of its type, and its link-layer address
abbrev pub what_words : InterfaceTold → List ℕ
what_words i = decimal i.type_number ++ codes ", link-layer address " ++ link_words i.link ++ codes "\n"

abbrev pub interface_line : ℕ → InterfaceTold → List ℕ
interface_line index i = who_words index i ++ what_words i

-- the far address of an address on an interface of this kind, but its own
abbrev pub far_words : Kind → ℕ → List ℕ
far_words Broadcast far = codes ", broadcast address " ++ inet_word far
far_words Loopback far = []
far_words PointToPoint far = codes ", other end " ++ inet_word far

abbrev pub words_where : Bool → List ℕ → List ℕ
words_where true words = words
words_where false words = []

-- an address, which was not removed
abbrev pub address_line : ℕ → Facts → List ℕ
address_line address facts =
    codes "    " ++ inet_word address ++ codes "/" ++ decimal facts.prefix ++ far_words facts.kind facts.far
    ++ words_where facts.cloning (codes ", cloning") ++ words_where facts.routed (codes ", which brought a route") ++ codes "\n"

abbrev pub line_of : Address → List ℕ
line_of a = address_line a.address (facts_of a)

-- the addresses of an interface that were not removed
abbrev pub standing : Interface → List Address
standing i = filter is_standing i.addresses

-- the lines of the addresses of the interface with this number
abbrev pub address_lines : ℕ → World → List ℕ
address_lines index w = option_map_or (λ i. flat_map line_of (standing i)) (interface_numbered index w.interfaces) []

-- an interface, where there is one, with its addresses
abbrev pub lines_of : Option InterfaceTold → ℕ → World → List ℕ
lines_of None index w = []
lines_of (Some i) index w = interface_line index i ++ address_lines index w

-- the interface with this number
abbrev pub numbered_lines : World → ℕ → List ℕ
numbered_lines w index = lines_of (interface_told index w.interfaces) index w

abbrev pub no_interface_line : Option InterfaceTold → List ℕ
no_interface_line None = codes "there is no interface\n"
no_interface_line (Some i) = []

-- the first interfaces, so many of them
abbrev pub lines_up_to : ℕ → World → List ℕ
lines_up_to many w = flat_map (numbered_lines w) (range_with_len 1 many)

-- the interfaces by their numbers, up to the 64 that there may be
unfoldable pub all_lines : World → List ℕ
all_lines w = lines_up_to 64 w

-- and where there is none, that
abbrev pub interfaces_words : World → List ℕ
interfaces_words w = no_interface_line (interface_told 1 w.interfaces) ++ all_lines w
