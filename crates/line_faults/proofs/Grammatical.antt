-- A line has no fault just where the grammar has it.
use Prim.Native.String.{String}
use Rattle.std.proofs.Common.{◌≡◌, ℕ, Bool, true, false, cond, List, [], ◌∷◌, length, map, refl, codes, bytes_eq, nat_lt, Option, Some, None}
use Rattle.std.specs.Prelude.{is_none, is_some}
use Rattle.event_file.specs.Grammar.{Form, add_address_form, attach_form, by_forms, close_form, command_of, dump_form, flags_form, form, loopback_form, losing_form, lost_form, open_form, packet_form, read_form, redirect_form, remove_address_form, route_form, said_by, write_form}
use Rattle.event_file.specs.Lines.{most_line_bytes}
use Rattle.event_file.specs.Words.{parted_by}
use Rattle.route_core.specs.Commands.{Command}
use Rattle.line_faults.proofs.FormRows.{attach_row, close_row, dump_row, flags_row, just_these, loopback_row, losing_row, lost_row, open_row, packet_row, read_row, redirect_row, remove_row, write_row}
use Rattle.line_faults.proofs.OptionRows.{add_address_says}
use Rattle.line_faults.proofs.RouteRows.{route_says}
use Rattle.line_faults.specs.Faults.{fault, fault_by_verb, fault_in, fault_of_verb, fault_of_words}
use Rattle.line_faults.specs.Verbs.{all_verbs, verb_among, verb_text, words_of}
use Rattle.line_faults.specs.declared.verbs.Verb.{Verb as VerbWord}
use Rattle.line_faults.specs.declared.verbs.Verb.TheVariants.{If, Addr, Unaddr, Open, Loopback, Close, Read, Lost, Write, Route, Packet, Redirect, Losing, Dump, Flags}
use Rattle.line_faults.specs.declared.wanted.Wanted.TheVariants.{ShorterLine}

-- what the grammar reads of the words behind a verb
abbrev form_says : VerbWord → List (List ℕ) → Option Command
form_says If = attach_form
form_says Addr = add_address_form
form_says Unaddr = remove_address_form
form_says Open = open_form
form_says Loopback = loopback_form
form_says Close = close_form
form_says Read = read_form
form_says Lost = lost_form
form_says Write = write_form
form_says Route = route_form
form_says Packet = packet_form
form_says Redirect = redirect_form
form_says Losing = losing_form
form_says Dump = dump_form
form_says Flags = flags_form

abbrev verb_name : VerbWord → String
verb_name If = "if"
verb_name Addr = "addr"
verb_name Unaddr = "unaddr"
verb_name Open = "open"
verb_name Loopback = "loopback"
verb_name Close = "close"
verb_name Read = "read"
verb_name Lost = "lost"
verb_name Write = "write"
verb_name Route = "route"
verb_name Packet = "packet"
verb_name Redirect = "redirect"
verb_name Losing = "losing"
verb_name Dump = "dump"
verb_name Flags = "flags"

same_text : (verb : VerbWord) → verb_text verb ≡ codes (verb_name verb)
same_text If = refl
same_text Addr = refl
same_text Unaddr = refl
same_text Open = refl
same_text Loopback = refl
same_text Close = refl
same_text Read = refl
same_text Lost = refl
same_text Write = refl
same_text Route = refl
same_text Packet = refl
same_text Redirect = refl
same_text Losing = refl
same_text Dump = refl
same_text Flags = refl

abbrev form_of : VerbWord → Form
form_of verb = form (verb_name verb) (form_says verb)

verb_says : (verb : VerbWord) (words : List (List ℕ)) → is_none (fault_of_verb verb words) ≡ is_some (form_says verb words)
verb_says If words = just_these (words_of If) words _ (attach_row words)
verb_says Addr words = add_address_says words
verb_says Unaddr words = just_these (words_of Unaddr) words _ (remove_row words)
verb_says Open words = just_these (words_of Open) words _ (open_row words)
verb_says Loopback words = just_these (words_of Loopback) words _ (loopback_row words)
verb_says Close words = just_these (words_of Close) words _ (close_row words)
verb_says Read words = just_these (words_of Read) words _ (read_row words)
verb_says Lost words = just_these (words_of Lost) words _ (lost_row words)
verb_says Write words = just_these (words_of Write) words _ (write_row words)
verb_says Route words = route_says words
verb_says Packet words = just_these (words_of Packet) words _ (packet_row words)
verb_says Redirect words = just_these (words_of Redirect) words _ (redirect_row words)
verb_says Losing words = just_these (words_of Losing) words _ (losing_row words)
verb_says Dump words = just_these (words_of Dump) words _ (dump_row words)
verb_says Flags words = just_these (words_of Flags) words _ (flags_row words)

among_say : (verbs : List VerbWord) (word : List ℕ) (words : List (List ℕ)) → is_none (fault_by_verb (verb_among verbs word) words) ≡ is_some (by_forms (map form_of verbs) word words)
among_say [] word words = refl
among_say (verb ∷ verbs) word words =
    rw (same_text verb) (elim (bytes_eq word (codes (verb_name verb)))
    as (λ (t : Bool). is_none (fault_by_verb (cond t (Some verb) (verb_among verbs word)) words) ≡ is_some (cond t (form_says verb words) (by_forms (map form_of verbs) word words))) [
      | true ↦ verb_says verb words
      | false ↦ among_say verbs word words
    ])

words_say : (words : List (List ℕ)) → is_none (fault_of_words words) ≡ is_some (said_by words)
words_say [] = refl
words_say (word ∷ words) = among_say all_verbs word words

pub line_says : (line : List ℕ) → is_none (fault_in line) ≡ is_some (command_of line)
line_says line =
    elim (nat_lt most_line_bytes (length line))
    as (λ (t : Bool). is_none (cond t (Some (fault 0 ShorterLine)) (fault_of_words (parted_by 32 line))) ≡ is_some (cond t None (said_by (parted_by 32 line)))) [
      | true ↦ refl
      | false ↦ words_say (parted_by 32 line)
    ]
