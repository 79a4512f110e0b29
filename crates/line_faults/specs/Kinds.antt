-- The kinds of words, and which words are of each.
use Rattle.std.specs.Prelude.{ℕ, Bool, false, ◌&&◌, ◌||◌, is_some, List, [], ◌∷◌, codes, bytes_eq}
use Rattle.event_file.specs.Grammar.{most_link_bytes}
use Rattle.event_file.specs.RouteLine.{destination_of, verb_of}
use Rattle.event_file.specs.Words.{bytes_to, gate_of, hex_number_of, inet_of, interface_kind_of, name_of, number_to, parted_by, protocol_of, switch_of}
use Rattle.line_faults.specs.declared.kinds.WordKind.{WordKind}
use Rattle.line_faults.specs.declared.kinds.WordKind.TheVariants.{InterfaceName, SocketId, InterfaceKind, TypeNumber, LinkBytes, Address, AddressPrefix, Pid, Protocol, Switch, Written, SequenceNumber, RouteVerb, Destination, Gateway, MaskLength, InterfaceAddress, FlagBits, Bits, Metric, DumpRoom}
use Rattle.route_core.specs.declared.written.TheConstants.{MOST_WRITTEN}

-- the parts of `A/P`
abbrev pub are_address_and_prefix : List (List ℕ) → Bool
are_address_and_prefix (address ∷ prefix ∷ []) = is_some (inet_of address) && is_some (number_to 32 prefix)
are_address_and_prefix parts = false

-- the word is of the kind
abbrev pub is_of : WordKind → List ℕ → Bool
is_of InterfaceName word = is_some (name_of word)
is_of SocketId word = is_some (name_of word)
is_of InterfaceKind word = is_some (interface_kind_of word)
is_of TypeNumber word = is_some (number_to 255 word)
is_of LinkBytes word = is_some (bytes_to most_link_bytes word)
is_of Address word = is_some (inet_of word)
is_of AddressPrefix word = are_address_and_prefix (parted_by 47 word)
is_of Pid word = is_some (number_to 4294967295 word)
is_of Protocol word = is_some (protocol_of word)
is_of Switch word = is_some (switch_of word)
is_of Written word = is_some (bytes_to MOST_WRITTEN word)
is_of SequenceNumber word = is_some (number_to 4294967295 word)
is_of RouteVerb word = is_some (verb_of word)
is_of Destination word = is_some (destination_of word)
is_of Gateway word = is_some (gate_of word)
is_of MaskLength word = is_some (number_to 32 word)
is_of InterfaceAddress word = is_some (gate_of word)
is_of FlagBits word = is_some (hex_number_of word)
is_of Bits word = is_some (hex_number_of word)
is_of Metric word = is_some (number_to 4294967295 word)
is_of DumpRoom word = bytes_eq word (codes "ask") || is_some (number_to 4294967295 word)
