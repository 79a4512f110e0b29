-- For each kind of word the line that the grammar has just where the word in it is of the kind.
use Prim.Native.String.{String}
use Rattle.std.proofs.Common.{◌≡◌, ◌∙◌, ◌||◌, ℕ, Bool, false, List, [], ◌∷◌, length-append, refl, ap, arith, codes, bytes_eq, Some, None}
use Rattle.std.specs.Prelude.{is_some}
use Rattle.std.specs.Fmt.{digits}
use Rattle.hex.proofs.OnLiterals.{hex_on_literals}
use Rattle.event_file.specs.Grammar.{address_of_parts, dump_into, most_link_bytes}
use Rattle.event_file.specs.RouteLine.{address_options, destination_of, gate_if_written, mask_if_written, message_of, route_words_of, verb_of}
use Rattle.event_file.specs.Words.{bytes_to, gate_of, hex_number_of, inet_of, interface_kind_of, name_of, number_to, parted_by, protocol_of, switch_of}
use Rattle.event_file.proofs.Joined.{Lacks}
use Rattle.route_core.specs.declared.written.TheConstants.{MOST_WRITTEN}
use Rattle.line_faults.proofs.Choosing.{either_says, mapped, then_made, then_says}
use Rattle.line_faults.proofs.Cuts.{Lacks-spaceless}
use Rattle.line_faults.proofs.Judging.{at_end, judged}
use Rattle.line_faults.proofs.Lengths.{bits_short, bytes_short, destination_short, gate_short, inet_short, kind_short, name_short, number_short, prefix_short, protocol_short, room_short, switch_short, verb_short, written_short}
use Rattle.line_faults.specs.Kinds.{are_address_and_prefix}
use Rattle.line_faults.specs.Probes.{Probes}
use Rattle.line_faults.specs.Words.{has_space}
use Rattle.line_faults.specs.declared.kinds.WordKind.TheVariants.{SocketId, InterfaceKind, TypeNumber, LinkBytes, Address, AddressPrefix, Pid, Protocol, Switch, Written, RouteVerb, Destination, Gateway, MaskLength, Bits, DumpRoom}

-- a word that is written out has no space
said : (text : String) → has_space (codes text) ≡ false → Lacks 32 (codes text)
said text none = Lacks-spaceless (codes text) none

pub name_row : Probes SocketId (codes "close ") []
name_row word none =
    at_end (codes "close ") word (is_some (name_of word)) (
    judged (codes "close") (word ∷ []) (is_some (name_of word)) (said "close" refl, (Lacks-spaceless word none, tt))
    (then_made (name_of word) _ (λ _. refl))
    (λ is. omega (arith, name_short word is)))

pub kind_row : Probes InterfaceKind (codes "if a ") (codes " 0 -")
unfolding digits hex_on_literals
kind_row word none =
    judged (codes "if") (codes "a" ∷ word ∷ codes "0" ∷ codes "-" ∷ []) (is_some (interface_kind_of word)) (said "if" refl, (said "a" refl, (Lacks-spaceless word none, (said "0" refl, (said "-" refl, tt)))))
    (then_made (interface_kind_of word) _ (λ _. refl))
    (λ is. omega (arith, kind_short word is, length-append word (codes " 0 -")))

pub type_row : Probes TypeNumber (codes "if a loopback ") (codes " -")
unfolding digits hex_on_literals
type_row word none =
    judged (codes "if") (codes "a" ∷ codes "loopback" ∷ word ∷ codes "-" ∷ []) (is_some (number_to 255 word)) (said "if" refl, (said "a" refl, (said "loopback" refl, (Lacks-spaceless word none, (said "-" refl, tt)))))
    (then_made (number_to 255 word) _ (λ _. refl))
    (λ is. omega (arith, number_short 255 word is, length-append word (codes " -")))

pub link_row : Probes LinkBytes (codes "if a loopback 0 ") []
unfolding digits hex_on_literals
link_row word none =
    at_end (codes "if a loopback 0 ") word (is_some (bytes_to most_link_bytes word)) (
    judged (codes "if") (codes "a" ∷ codes "loopback" ∷ codes "0" ∷ word ∷ []) (is_some (bytes_to most_link_bytes word)) (said "if" refl, (said "a" refl, (said "loopback" refl, (said "0" refl, (Lacks-spaceless word none, tt)))))
    (then_made (bytes_to most_link_bytes word) _ (λ _. refl))
    (λ is. omega (arith, bytes_short most_link_bytes word is)))

pub address_row : Probes Address (codes "losing ") []
address_row word none =
    at_end (codes "losing ") word (is_some (inet_of word)) (
    judged (codes "losing") (word ∷ []) (is_some (inet_of word)) (said "losing" refl, (Lacks-spaceless word none, tt))
    (then_made (inet_of word) _ (λ _. refl))
    (λ is. omega (arith, inet_short word is)))

-- `A/P`, by its parts
prefix_says : (parts : List (List ℕ)) → is_some (address_of_parts (codes "a") parts false None) ≡ are_address_and_prefix parts
prefix_says (address ∷ prefix ∷ []) = then_says (inet_of address) _ (is_some (number_to 32 prefix)) (λ _. then_made (number_to 32 prefix) _ (λ _. refl))
prefix_says parts = refl

pub prefix_row : Probes AddressPrefix (codes "addr a ") []
prefix_row word none =
    at_end (codes "addr a ") word (are_address_and_prefix (parted_by 47 word)) (
    judged (codes "addr") (codes "a" ∷ word ∷ []) (are_address_and_prefix (parted_by 47 word)) (said "addr" refl, (said "a" refl, (Lacks-spaceless word none, tt)))
    (prefix_says (parted_by 47 word))
    (λ is. omega (arith, prefix_short word is)))

pub number_row : Probes Pid (codes "open a ") (codes " any")
number_row word none =
    judged (codes "open") (codes "a" ∷ word ∷ codes "any" ∷ []) (is_some (number_to 4294967295 word)) (said "open" refl, (said "a" refl, (Lacks-spaceless word none, (said "any" refl, tt))))
    (then_made (number_to 4294967295 word) _ (λ _. refl))
    (λ is. omega (arith, number_short 4294967295 word is, length-append word (codes " any")))

pub protocol_row : Probes Protocol (codes "open a 0 ") []
unfolding digits hex_on_literals
protocol_row word none =
    at_end (codes "open a 0 ") word (is_some (protocol_of word)) (
    judged (codes "open") (codes "a" ∷ codes "0" ∷ word ∷ []) (is_some (protocol_of word)) (said "open" refl, (said "a" refl, (said "0" refl, (Lacks-spaceless word none, tt))))
    (then_made (protocol_of word) _ (λ _. refl))
    (λ is. omega (arith, protocol_short word is)))

pub switch_row : Probes Switch (codes "loopback a ") []
switch_row word none =
    at_end (codes "loopback a ") word (is_some (switch_of word)) (
    judged (codes "loopback") (codes "a" ∷ word ∷ []) (is_some (switch_of word)) (said "loopback" refl, (said "a" refl, (Lacks-spaceless word none, tt)))
    (then_made (switch_of word) _ (λ _. refl))
    (λ is. omega (arith, switch_short word is)))

pub written_row : Probes Written (codes "write a ") []
written_row word none =
    at_end (codes "write a ") word (is_some (bytes_to MOST_WRITTEN word)) (
    judged (codes "write") (codes "a" ∷ word ∷ []) (is_some (bytes_to MOST_WRITTEN word)) (said "write" refl, (said "a" refl, (Lacks-spaceless word none, tt)))
    (then_made (bytes_to MOST_WRITTEN word) _ (λ _. refl))
    (λ is. omega (arith, written_short MOST_WRITTEN word (omega arith) is)))

pub verb_row : Probes RouteVerb (codes "route a 0 ") (codes " default")
unfolding digits hex_on_literals
verb_row word none =
    judged (codes "route") (codes "a" ∷ codes "0" ∷ word ∷ codes "default" ∷ []) (is_some (verb_of word)) (said "route" refl, (said "a" refl, (said "0" refl, (Lacks-spaceless word none, (said "default" refl, tt)))))
    (then_made (message_of (codes "0" ∷ word ∷ codes "default" ∷ [])) _ (λ _. refl) ∙ then_made (route_words_of (codes "0" ∷ word ∷ codes "default" ∷ [])) _ (λ _. refl) ∙ then_made (verb_of word) _ (λ _. refl))
    (λ is. omega (arith, verb_short word is, length-append word (codes " default")))

pub destination_row : Probes Destination (codes "route a 0 get ") []
unfolding digits hex_on_literals
destination_row word none =
    at_end (codes "route a 0 get ") word (is_some (destination_of word)) (
    judged (codes "route") (codes "a" ∷ codes "0" ∷ codes "get" ∷ word ∷ []) (is_some (destination_of word)) (said "route" refl, (said "a" refl, (said "0" refl, (said "get" refl, (Lacks-spaceless word none, tt)))))
    (then_made (message_of (codes "0" ∷ codes "get" ∷ word ∷ [])) _ (λ _. refl) ∙ then_made (route_words_of (codes "0" ∷ codes "get" ∷ word ∷ [])) _ (λ _. refl) ∙ then_made (destination_of word) _ (λ _. refl))
    (λ is. omega (arith, destination_short word is)))

pub gate_row : Probes Gateway (codes "route a 0 get default via ") []
unfolding digits hex_on_literals
gate_row word none =
    at_end (codes "route a 0 get default via ") word (is_some (gate_of word)) (
    judged (codes "route") (codes "a" ∷ codes "0" ∷ codes "get" ∷ codes "default" ∷ codes "via" ∷ word ∷ []) (is_some (gate_of word)) (said "route" refl, (said "a" refl, (said "0" refl, (said "get" refl, (said "default" refl, (said "via" refl, (Lacks-spaceless word none, tt)))))))
    (then_made (message_of (codes "0" ∷ codes "get" ∷ codes "default" ∷ codes "via" ∷ word ∷ [])) _ (λ _. refl) ∙ then_made (route_words_of (codes "0" ∷ codes "get" ∷ codes "default" ∷ codes "via" ∷ word ∷ [])) _ (λ _. refl) ∙ then_made (address_options (codes "via" ∷ word ∷ [])) _ (λ _. refl) ∙ then_made (gate_if_written (Some word)) _ (λ _. refl) ∙ mapped Some (gate_of word))
    (λ is. omega (arith, gate_short word is)))

pub mask_row : Probes MaskLength (codes "route a 0 get default genmask ") []
unfolding digits hex_on_literals
mask_row word none =
    at_end (codes "route a 0 get default genmask ") word (is_some (number_to 32 word)) (
    judged (codes "route") (codes "a" ∷ codes "0" ∷ codes "get" ∷ codes "default" ∷ codes "genmask" ∷ word ∷ []) (is_some (number_to 32 word)) (said "route" refl, (said "a" refl, (said "0" refl, (said "get" refl, (said "default" refl, (said "genmask" refl, (Lacks-spaceless word none, tt)))))))
    (then_made (message_of (codes "0" ∷ codes "get" ∷ codes "default" ∷ codes "genmask" ∷ word ∷ [])) _ (λ _. refl) ∙ then_made (route_words_of (codes "0" ∷ codes "get" ∷ codes "default" ∷ codes "genmask" ∷ word ∷ [])) _ (λ _. refl) ∙ then_made (address_options (codes "genmask" ∷ word ∷ [])) _ (λ _. refl) ∙ then_made (mask_if_written (Some word)) _ (λ _. refl) ∙ mapped Some (number_to 32 word))
    (λ is. omega (arith, number_short 32 word is)))

pub bits_row : Probes Bits (codes "flags ") (codes " ask")
bits_row word none =
    judged (codes "flags") (word ∷ codes "ask" ∷ []) (is_some (hex_number_of word)) (said "flags" refl, (Lacks-spaceless word none, (said "ask" refl, tt)))
    (then_made (hex_number_of word) _ (λ _. refl))
    (λ is. omega (arith, bits_short word is, length-append word (codes " ask")))

pub room_row : Probes DumpRoom (codes "dump ") []
room_row word none =
    at_end (codes "dump ") word (bytes_eq word (codes "ask") || is_some (number_to 4294967295 word)) (
    judged (codes "dump") (word ∷ []) (bytes_eq word (codes "ask") || is_some (number_to 4294967295 word)) (said "dump" refl, (Lacks-spaceless word none, tt))
    (either_says (bytes_eq word (codes "ask")) _ (dump_into None word) ∙ ap (λ (b : Bool). bytes_eq word (codes "ask") || b) (then_made (number_to 4294967295 word) _ (λ _. refl)))
    (λ is. omega (arith, room_short word is)))
