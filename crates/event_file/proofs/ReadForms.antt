-- A command that was read is within the bounds of the grammar.
use Rattle.std.proofs.Common.{◌≡◌, ◌<◌, ◌≤◌, ◌+◌, ◌*◌, ◌^◌, ℕ, Bool, true, false, cond, List, [], ◌∷◌, length, refl, sym, ap, subst, arith, codes, bytes_eq, length-append, Option, Some, None}
use Rattle.std.specs.Prelude.{⊤}
use Rattle.std.specs.Option.{IfSome}
use Rattle.std.specs.List.{join_with_byte}
use Rattle.std.proofs.lemmas.Option.{cond_some}
use Rattle.std.proofs.lemmas.Slice.Eq.{bytes_eq-Decides}
use Rattle.route_core.specs.Commands.{Command}
use Rattle.route_core.specs.declared.command.Command.TheVariants.{Attach, AddAddress, RemoveAddress, Open, Close, Loopback, Write, Read, Lost, Packet, Redirect, Losing, DumpSize, Dump}
use Rattle.route_core.specs.declared.written.TheConstants.{MOST_WRITTEN}
use Rattle.event_file.specs.Grammar.{Form, add_address_form, address_of_parts, attach_form, by_forms, cloning_of, close_form, dump_form, dump_into, dump_of, flags_form, forms, inet_if_written, loopback_form, most_link_bytes, open_form, packet_form, read_form, lost_form, losing_form, redirect_form, remove_address_form, route_form, route_forms, said_by, write_form}
use Rattle.event_file.specs.Lines.{most_line_bytes}
use Rattle.event_file.specs.Printed.{IsWithinBounds}
use Rattle.event_file.specs.Words.{bytes_to, hex_number_of, inet_of, interface_kind_of, name_of, number_to, option_written, parted_by, protocol_of, switch_of, words_behind}
use Rattle.event_file.proofs.ReadWords.{bind_some, bytes_to-Some, hex_number_of-Some, inet_if_written-Some, inet_of-Some, inet_of_parts-Some, inside, name_of-Some, number_to-Some, passed, protocol_of-Some}
use Rattle.event_file.proofs.ReadRoutes.{route_words_of-Some}
use Rattle.event_file.proofs.Composed.{composed_is_bounded}
use Rattle.event_file.specs.RouteLine.{message_of, route_words_of}
use Rattle.event_file.specs.RouteWords.{composed}

-- ---- forms

attach_form-says : (words : List (List ℕ)) (command : Command) → attach_form words ≡ Some command → IsWithinBounds command
attach_form-says (name ∷ kind ∷ type ∷ link ∷ []) command h =
    let (n, is, named) = bind_some (name_of name) _ command h in
    let (k, _, known) = bind_some (interface_kind_of kind) _ command named in
    let (t, small, typed) = bind_some (number_to 255 type) _ command known in
    let (l, are, said) = bind_some (bytes_to most_link_bytes link) _ command typed in
    let read = bytes_to-Some most_link_bytes link l are in
    passed true (Attach n k t l) IsWithinBounds command said (name_of-Some name n is, number_to-Some 255 type t small, read.fit, read.are)
attach_form-says words command h = cc h

address_of_parts-says : (name : List ℕ) (parts : List (List ℕ)) (cloning : Bool) (far : Option ℕ) (command : Command) → IfSome far (λ a. a < 2 ^ 32)
    → address_of_parts name parts cloning far ≡ Some command → IsWithinBounds command
address_of_parts-says name (address ∷ prefix ∷ []) cloning far command end h =
    let (n, is, named) = bind_some (name_of name) _ command h in
    let (a, small, addressed) = bind_some (inet_of address) _ command named in
    let (p, short, said) = bind_some (number_to 32 prefix) _ command addressed in
    passed true (AddAddress n a p cloning far) IsWithinBounds command said (name_of-Some name n is, inet_of_parts-Some (parted_by 46 address) a small, number_to-Some 32 prefix p short, end)
address_of_parts-says name parts cloning far command end h = cc h

add_address_form-says : (words : List (List ℕ)) (command : Command) → add_address_form words ≡ Some command → IsWithinBounds command
add_address_form-says (name ∷ address ∷ options) command h =
    let (far, end, optional) = bind_some (inet_if_written (option_written (codes "to") options)) _ command h in
    let (cloning, _, said) = bind_some (cloning_of (words_behind (codes "to") options)) _ command optional in
    address_of_parts-says name (parted_by 47 address) cloning far command (inet_if_written-Some (option_written (codes "to") options) far end) said
add_address_form-says words command h = cc h

remove_address_form-says : (words : List (List ℕ)) (command : Command) → remove_address_form words ≡ Some command → IsWithinBounds command
remove_address_form-says (name ∷ address ∷ []) command h =
    let (n, is, named) = bind_some (name_of name) _ command h in
    let (a, small, said) = bind_some (inet_of address) _ command named in
    passed true (RemoveAddress n a) IsWithinBounds command said (name_of-Some name n is, inet_of-Some address a small)
remove_address_form-says words command h = cc h

open_form-says : (words : List (List ℕ)) (command : Command) → open_form words ≡ Some command → IsWithinBounds command
open_form-says (id ∷ pid ∷ protocol ∷ []) command h =
    let (i, is, named) = bind_some (name_of id) _ command h in
    let (p, small, numbered) = bind_some (number_to 4294967295 pid) _ command named in
    let (q, fits, said) = bind_some (protocol_of protocol) _ command numbered in
    passed true (Open i p q) IsWithinBounds command said (name_of-Some id i is, omega (arith, number_to-Some 4294967295 pid p small), protocol_of-Some protocol q fits)
open_form-says words command h = cc h

loopback_form-says : (words : List (List ℕ)) (command : Command) → loopback_form words ≡ Some command → IsWithinBounds command
loopback_form-says (id ∷ switch ∷ []) command h =
    let (i, is, named) = bind_some (name_of id) _ command h in
    let (on, _, said) = bind_some (switch_of switch) _ command named in
    passed true (Loopback i on) IsWithinBounds command said (name_of-Some id i is)
loopback_form-says words command h = cc h

close_form-says : (words : List (List ℕ)) (command : Command) → close_form words ≡ Some command → IsWithinBounds command
close_form-says (id ∷ []) command h =
    let (i, is, said) = bind_some (name_of id) _ command h in
    passed true (Close i) IsWithinBounds command said (name_of-Some id i is)
close_form-says words command h = cc h

write_form-says : (words : List (List ℕ)) (command : Command) → length (join_with_byte 32 (codes "write" ∷ words)) ≤ most_line_bytes → write_form words ≡ Some command → IsWithinBounds command
write_form-says (id ∷ bytes ∷ []) command short h =
    let (i, is, named) = bind_some (name_of id) _ command h in
    let (b, are, said) = bind_some (bytes_to MOST_WRITTEN bytes) _ command named in
    let read = bytes_to-Some MOST_WRITTEN bytes b are in
    let same : i ≡ id = sym (cond_some _ id i is).1 in
    let room : 7 + length i + 2 * length b ≤ most_line_bytes = omega (arith, ap length same, read.digits, length-append id (32 ∷ bytes)) in
    passed true (Write i b) IsWithinBounds command said (name_of-Some id i is, room, read.are)
write_form-says words command short h = cc h

route_form-says : (words : List (List ℕ)) (command : Command) → route_form words ≡ Some command → IsWithinBounds command
route_form-says [] command h = cc h
route_form-says (id ∷ words) command h =
    let (i, is, named) = bind_some (name_of id) _ command h in
    let (m, composes, said) = bind_some (message_of words) _ command named in
    let (w, reads, same) = bind_some (route_words_of words) _ m composes in
    let its = composed_is_bounded w (route_words_of-Some words w reads) in
    let fits : 7 + length i + 2 * length (composed w) ≤ most_line_bytes = omega (arith, (name_of-Some id i is).1, its.0) in
    let bounds : IsWithinBounds (Write i (composed w)) = (name_of-Some id i is, fits, its.1) in
    passed true (Write i m) IsWithinBounds command said (subst (λ bytes. IsWithinBounds (Write i bytes)) (inside (composed w) m same) bounds)

packet_form-says : (words : List (List ℕ)) (command : Command) → packet_form words ≡ Some command → IsWithinBounds command
packet_form-says (destination ∷ []) command h =
    let (d, small, said) = bind_some (inet_of destination) _ command h in
    passed true (Packet d) IsWithinBounds command said (inet_of-Some destination d small)
packet_form-says words command h = cc h

losing_form-says : (words : List (List ℕ)) (command : Command) → losing_form words ≡ Some command → IsWithinBounds command
losing_form-says (destination ∷ []) command h =
    let (d, small, said) = bind_some (inet_of destination) _ command h in
    passed true (Losing d) IsWithinBounds command said (inet_of-Some destination d small)
losing_form-says words command h = cc h

redirect_form-says : (words : List (List ℕ)) (command : Command) → redirect_form words ≡ Some command → IsWithinBounds command
redirect_form-says (destination ∷ gateway ∷ author ∷ []) command h =
    let (d, to, hd) = bind_some (inet_of destination) _ command h in
    let (g, by, hg) = bind_some (inet_of gateway) _ command hd in
    let (a, from, said) = bind_some (inet_of author) _ command hg in
    passed true (Redirect (record { destination = d; gateway = g; author = a })) IsWithinBounds command said (inet_of-Some destination d to, inet_of-Some gateway g by, inet_of-Some author a from)
redirect_form-says words command h = cc h

-- a dump, or the wish to know how large it is, of the routes that this filter lets through
dump_of-says : (filter : Option ℕ) (word : List ℕ) (command : Command) → IfSome filter (λ flags. flags < 2 ^ 32) → dump_of filter word ≡ Some command → IsWithinBounds command
dump_of-says filter word command bits h =
    elim (bytes_eq word (codes "ask")) as (λ (t : Bool). cond t (Some (DumpSize filter)) (dump_into filter word) ≡ Some command → IsWithinBounds command) [
      | true ↦ λ asks. passed true (DumpSize filter) IsWithinBounds command asks bits
      | false ↦ λ dumps.
          let (n, small, said) = bind_some (number_to 4294967295 word) _ command dumps in
          passed true (Dump filter n) IsWithinBounds command said (bits, omega (arith, number_to-Some 4294967295 word n small))
    ] h

dump_form-says : (words : List (List ℕ)) (command : Command) → dump_form words ≡ Some command → IsWithinBounds command
dump_form-says (word ∷ []) command h = dump_of-says None word command tt h
dump_form-says words command h = cc h

flags_form-says : (words : List (List ℕ)) (command : Command) → flags_form words ≡ Some command → IsWithinBounds command
flags_form-says (flags ∷ word ∷ []) command h =
    let (x, small, said) = bind_some (hex_number_of flags) _ command h in
    dump_of-says (Some x) word command (hex_number_of-Some flags x small) said
flags_form-says words command h = cc h

read_form-says : (words : List (List ℕ)) (command : Command) → read_form words ≡ Some command → IsWithinBounds command
read_form-says (id ∷ []) command h =
    let (i, is, said) = bind_some (name_of id) _ command h in
    passed true (Read i) IsWithinBounds command said (name_of-Some id i is)
read_form-says words command h = cc h

lost_form-says : (words : List (List ℕ)) (command : Command) → lost_form words ≡ Some command → IsWithinBounds command
lost_form-says (id ∷ []) command h =
    let (i, is, said) = bind_some (name_of id) _ command h in
    passed true (Lost i) IsWithinBounds command said (name_of-Some id i is)
lost_form-says words command h = cc h

-- ---- the choice of a form

-- what each form says, behind its verb, is so
abbrev pub EachSays : (Command → Type 0) → List Form → List ℕ → List (List ℕ) → Command → Type 0
EachSays P [] verb words command = ⊤
EachSays P (f ∷ fs) verb words command = (verb ≡ codes f.verb → f.says words ≡ Some command → P command) × EachSays P fs verb words command

pub by_forms-says : (P : Command → Type 0) (fs : List Form) (verb : List ℕ) (words : List (List ℕ)) (command : Command) → EachSays P fs verb words command → by_forms fs verb words ≡ Some command → P command
by_forms-says P [] verb words command says h = cc h
by_forms-says P (f ∷ fs) verb words command says h =
    elim (bytes_eq verb (codes f.verb)) as (λ t. bytes_eq verb (codes f.verb) ≡ t → cond t (f.says words) (by_forms fs verb words) ≡ Some command → P command) [
      | true ↦ λ is here. says.0 ((bytes_eq-Decides verb (codes f.verb)).0 is) here
      | false ↦ λ _ there. by_forms-says P fs verb words command says.1 there
    ] refl h

pub said_by-says : (words : List (List ℕ)) (command : Command) → length (join_with_byte 32 words) ≤ most_line_bytes → said_by words ≡ Some command → IsWithinBounds command
said_by-says [] command short h = cc h
said_by-says (verb ∷ words) command short h =
    let room : verb ≡ codes "write" → length (join_with_byte 32 (codes "write" ∷ words)) ≤ most_line_bytes = λ is. subst (λ v. length (join_with_byte 32 (v ∷ words)) ≤ most_line_bytes) is short in
    let of_routes : EachSays IsWithinBounds route_forms verb words command = (
      λ is. write_form-says words command (room is),
      (λ _. route_form-says words command, (λ _. packet_form-says words command, (λ _. redirect_form-says words command, (λ _. losing_form-says words command, (λ _. dump_form-says words command, (λ _. flags_form-says words command, tt)))))),
    ) in
    by_forms-says IsWithinBounds forms verb words command (
      λ _. attach_form-says words command,
      (
        λ _. add_address_form-says words command,
        (
          λ _. remove_address_form-says words command,
          (
            λ _. open_form-says words command,
            (λ _. loopback_form-says words command, (λ _. close_form-says words command, (λ _. read_form-says words command, (λ _. lost_form-says words command, of_routes)))),
          ),
        ),
      ),
    ) h
