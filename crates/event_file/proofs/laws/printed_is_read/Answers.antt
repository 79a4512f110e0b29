use Rattle.std.proofs.Common.{◌≡◌, ◌≤◌, ◌^◌, ◌-◌, ◌∙◌, ◌++◌, ℕ, Bool, List, [], ◌∷◌, length, refl, ap, arith, codes, decimal, length-append, Option, Some, None}
use Rattle.std.specs.List.{join_with_byte}
use Rattle.std.proofs.lemmas.Bool.{cond-false, le-ltb}
use Rattle.route_core.specs.Commands.{Command}
use Rattle.route_core.specs.declared.command.Command.TheVariants.{Attach, AddAddress, RemoveAddress, Open, Close, Loopback, Write, Read, Lost, Packet, Redirect, Losing, DumpSize, Dump}
use Rattle.route_core.specs.declared.written.TheConstants.{MOST_WRITTEN}
use Rattle.event_file.specs.Grammar.{add_address_form, command_of, most_link_bytes, said_by}
use Rattle.event_file.specs.Lines.{most_line_bytes}
use Rattle.event_file.specs.Printed.{IsWithinBounds, PrintedFits, PrintedIsRead, bytes_word, cloning_words, far_words, hex_word, inet_word, kind_word, line_of, network_word, protocol_word, switch_word, words_of}
use Rattle.event_file.specs.Words.{parted_by}
use Rattle.event_file.proofs.Decimals.{printed_read}
use Rattle.event_file.proofs.Joined.{AllLack, Lacks, length-joined, parted-joined, room_of}
use Rattle.event_file.proofs.PrintedWords.{AllLack-options, Lacks-bytes_word, Lacks-decimal, Lacks-hex_word, Lacks-inet_word, Lacks-letters, Lacks-network_word, Lacks-protocol_word, bytes_to-bytes_word, cloning_of-options, dump_of-decimal, hex_number_of-hex_word, inet_if_written-options, inet_of-inet_word, interface_kind_of-kind_word, is_letters-kind_word, is_letters-switch_word, length-bytes_word, length-decimal, length-hex_word, length-inet_word, length-kind_word, length-network_word, length-protocol_word, length-switch_word, name_of-name, parted-network_word, protocol_of-protocol_word, room_of-options, switch_of-switch_word}
use Rattle.event_file.proofs.laws.printed_is_read.Goals as goal

-- a line that has room for its command's words
short : (command : Command) → room_of (words_of command) ≤ most_line_bytes → length (line_of command) ≤ most_line_bytes
short command room = omega (arith, room, length-joined 32 (words_of command))

fits : PrintedFits
fits (Attach name kind type_number link) (is, small, few, are) =
    short (Attach name kind type_number link) (omega (arith, is.1, length-kind_word kind, length-decimal type_number (omega arith), length-bytes_word link))
fits (AddAddress name address prefix cloning far) (is, small, few, end) =
    short (AddAddress name address prefix cloning far) (omega (arith, is.1, length-network_word address prefix few, room_of-options cloning far))
fits (RemoveAddress name address) (is, small) = short (RemoveAddress name address) (omega (arith, is.1, length-inet_word address))
fits (Open id pid protocol) (is, small, few) = short (Open id pid protocol) (omega (arith, is.1, length-decimal pid small, length-protocol_word protocol few))
fits (Close id) is = short (Close id) (omega (arith, is.1))
fits (Loopback id on) is = short (Loopback id on) (omega (arith, is.1, length-switch_word on))
fits (Write id bytes) (is, room, are) = simp length-append (omega (arith, is.1, length-bytes_word bytes))
fits (Read id) is = short (Read id) (omega (arith, is.1))
fits (Lost id) is = short (Lost id) (omega (arith, is.1))
fits (Packet destination) small = short (Packet destination) (omega (arith, length-inet_word destination))
fits (Redirect asked) small =
    short (Redirect asked) (omega (arith, length-inet_word asked.destination, length-inet_word asked.gateway, length-inet_word asked.author))
fits (Losing destination) small = short (Losing destination) (omega (arith, length-inet_word destination))
fits (DumpSize None) small = short (DumpSize None) (omega arith)
fits (DumpSize (Some flags)) small = short (DumpSize (Some flags)) (omega (arith, length-hex_word flags))
fits (Dump None room) (bits, small) = short (Dump None room) (omega (arith, length-decimal room small))
fits (Dump (Some flags) room) (bits, small) = short (Dump (Some flags) room) (omega (arith, length-hex_word flags, length-decimal room small))

-- a line of such words is the command that they say
line_says : (verb : List ℕ) (words : List (List ℕ)) (said : Option Command) → length (join_with_byte 32 (verb ∷ words)) ≤ most_line_bytes → AllLack 32 (verb ∷ words)
    → said_by (verb ∷ words) ≡ said → command_of (join_with_byte 32 (verb ∷ words)) ≡ said
line_says verb words said short lack says =
    let line = join_with_byte 32 (verb ∷ words) in
    cond-false _ None (said_by (parted_by 32 line)) (le-ltb most_line_bytes (length line) short) ∙ ap said_by (parted-joined 32 verb words lack) ∙ says

-- the words behind `addr` are an address with its name, where the options say whether its route clones and which the
-- far address is
address_says : (name : List ℕ) (address prefix : ℕ) (cloning : Bool) (far : Option ℕ) → IsWithinBounds (AddAddress name address prefix cloning far)
    → add_address_form (name ∷ network_word address prefix ∷ (far_words far ++ cloning_words cloning)) ≡ Some (AddAddress name address prefix cloning far)
address_says name address prefix cloning far can =
    let parts : parted_by 47 (network_word address prefix) ≡ inet_word address ∷ decimal prefix ∷ [] = parted-network_word address prefix can.2 in
    let prefix_read = printed_read 32 prefix (decimal prefix) (omega arith) can.2 refl in
    rw (inet_if_written-options cloning far can.3, cloning_of-options cloning far, parts, name_of-name name can.0, inet_of-inet_word address can.1, prefix_read) refl

-- an address has no space
lacks : (address : ℕ) → Lacks 32 (inet_word address)
lacks address = Lacks-inet_word 32 address (omega arith) (λ e. omega arith)

read : PrintedIsRead
read (Attach name kind type_number link) can =
    let type_read = printed_read 255 type_number (decimal type_number) (omega arith) can.1 refl in
    line_says (codes "if") (name ∷ kind_word kind ∷ decimal type_number ∷ bytes_word link ∷ []) _ (fits (Attach name kind type_number link) can)
    (Lacks-letters (codes "if") refl, (Lacks-letters name can.0.2, (Lacks-letters (kind_word kind) (is_letters-kind_word kind), (Lacks-decimal 32 type_number (omega arith) (omega (arith, can.1)), (Lacks-bytes_word link can.3, tt)))))
    (rw (name_of-name name can.0, interface_kind_of-kind_word kind, type_read, bytes_to-bytes_word most_link_bytes link can.2 can.3) refl)
read (AddAddress name address prefix cloning far) can =
    line_says (codes "addr") (name ∷ network_word address prefix ∷ (far_words far ++ cloning_words cloning)) _ (fits (AddAddress name address prefix cloning far) can)
    (Lacks-letters (codes "addr") refl, (Lacks-letters name can.0.2, (Lacks-network_word address prefix can.2, AllLack-options cloning far)))
    (address_says name address prefix cloning far can)
read (RemoveAddress name address) can =
    line_says (codes "unaddr") (name ∷ inet_word address ∷ []) _ (fits (RemoveAddress name address) can)
    (Lacks-letters (codes "unaddr") refl, (Lacks-letters name can.0.2, (lacks address, tt)))
    (rw (name_of-name name can.0, inet_of-inet_word address can.1) refl)
read (Open id pid protocol) can =
    let pid_read = printed_read (2 ^ 32 - 1) pid (decimal pid) (omega arith) (omega (arith, can.1)) refl in
    line_says (codes "open") (id ∷ decimal pid ∷ protocol_word protocol ∷ []) _ (fits (Open id pid protocol) can)
    (Lacks-letters (codes "open") refl, (Lacks-letters id can.0.2, (Lacks-decimal 32 pid (omega arith) can.1, (Lacks-protocol_word protocol can.2, tt))))
    (rw (name_of-name id can.0, pid_read, protocol_of-protocol_word protocol can.2) refl)
read (Close id) can =
    line_says (codes "close") (id ∷ []) _ (fits (Close id) can) (Lacks-letters (codes "close") refl, (Lacks-letters id can.2, tt)) (rw (name_of-name id can) refl)
read (Loopback id on) can =
    line_says (codes "loopback") (id ∷ switch_word on ∷ []) _ (fits (Loopback id on) can)
    (Lacks-letters (codes "loopback") refl, (Lacks-letters id can.2, (Lacks-letters (switch_word on) (is_letters-switch_word on), tt)))
    (rw (name_of-name id can, switch_of-switch_word on) refl)
read (Write id bytes) can =
    line_says (codes "write") (id ∷ bytes_word bytes ∷ []) _ (fits (Write id bytes) can)
    (Lacks-letters (codes "write") refl, (Lacks-letters id can.0.2, (Lacks-bytes_word bytes can.2, tt)))
    (rw (name_of-name id can.0, bytes_to-bytes_word MOST_WRITTEN bytes (omega (arith, can.0.0, can.1)) can.2) refl)
read (Read id) can =
    line_says (codes "read") (id ∷ []) _ (fits (Read id) can) (Lacks-letters (codes "read") refl, (Lacks-letters id can.2, tt)) (rw (name_of-name id can) refl)
read (Lost id) can =
    line_says (codes "lost") (id ∷ []) _ (fits (Lost id) can) (Lacks-letters (codes "lost") refl, (Lacks-letters id can.2, tt)) (rw (name_of-name id can) refl)
read (Packet destination) can =
    line_says (codes "packet") (inet_word destination ∷ []) _ (fits (Packet destination) can) (Lacks-letters (codes "packet") refl, (lacks destination, tt))
    (rw (inet_of-inet_word destination can) refl)
read (Redirect asked) can =
    line_says (codes "redirect") (inet_word asked.destination ∷ inet_word asked.gateway ∷ inet_word asked.author ∷ []) _ (fits (Redirect asked) can)
    (Lacks-letters (codes "redirect") refl, (lacks asked.destination, (lacks asked.gateway, (lacks asked.author, tt))))
    (rw (inet_of-inet_word asked.destination can.0, inet_of-inet_word asked.gateway can.1, inet_of-inet_word asked.author can.2) refl)
read (Losing destination) can =
    line_says (codes "losing") (inet_word destination ∷ []) _ (fits (Losing destination) can) (Lacks-letters (codes "losing") refl, (lacks destination, tt))
    (rw (inet_of-inet_word destination can) refl)
read (DumpSize None) can =
    line_says (codes "dump") (codes "ask" ∷ []) _ (fits (DumpSize None) can) (Lacks-letters (codes "dump") refl, (Lacks-letters (codes "ask") refl, tt)) refl
read (DumpSize (Some flags)) can =
    line_says (codes "flags") (hex_word flags ∷ codes "ask" ∷ []) _ (fits (DumpSize (Some flags)) can)
    (Lacks-letters (codes "flags") refl, (Lacks-hex_word flags, (Lacks-letters (codes "ask") refl, tt)))
    (rw (hex_number_of-hex_word flags can) refl)
read (Dump None room) can =
    line_says (codes "dump") (decimal room ∷ []) _ (fits (Dump None room) can) (Lacks-letters (codes "dump") refl, (Lacks-decimal 32 room (omega arith) can.1, tt))
    (dump_of-decimal None room can.1)
read (Dump (Some flags) room) can =
    line_says (codes "flags") (hex_word flags ∷ decimal room ∷ []) _ (fits (Dump (Some flags) room) can)
    (Lacks-letters (codes "flags") refl, (Lacks-hex_word flags, (Lacks-decimal 32 room (omega arith) can.1, tt)))
    (rw (hex_number_of-hex_word flags can.0) (dump_of-decimal (Some flags) room can.1))

pub returns-clause-read : goal.returns-clause-read
returns-clause-read c = read

pub returns-clause-fits : goal.returns-clause-fits
returns-clause-fits c = fits
