-- The words that a verb has to have behind it are all of their kinds just where the verb's form reads them.
use Rattle.std.proofs.Common.{◌≡◌, ◌∙◌, ◌+◌, ◌&&◌, ◌||◌, ℕ, Bool, true, false, cond, List, [], ◌∷◌, length, drop, refl, sym, ap, codes, bytes_eq, Option, Some, None}
use Rattle.std.specs.Prelude.{is_none, is_some}
use Rattle.std.proofs.Math.Bool.{and-false}
use Rattle.event_file.specs.Grammar.{attach_form, close_form, dump_form, dump_into, dump_of, flags_form, loopback_form, losing_form, lost_form, most_link_bytes, open_form, packet_form, read_form, redirect_form, remove_address_form, write_form}
use Rattle.event_file.specs.Words.{bytes_to, hex_number_of, inet_of, interface_kind_of, name_of, number_to, protocol_of, switch_of}
use Rattle.route_core.specs.declared.written.TheConstants.{MOST_WRITTEN}
use Rattle.line_faults.proofs.Choosing.{either_says, then_made, then_says}
use Rattle.line_faults.specs.Faults.{fault, fault_among, fault_of_more, first_of}
use Rattle.line_faults.specs.Kinds.{is_of}
use Rattle.line_faults.specs.Verbs.{words_of}
use Rattle.line_faults.specs.declared.faults.LineFault.{LineFault}
use Rattle.line_faults.specs.declared.kinds.WordKind.{WordKind}
use Rattle.line_faults.specs.declared.wanted.Wanted.TheVariants.{Word}
use Rattle.line_faults.specs.declared.verbs.Verb.TheVariants.{If, Unaddr, Open, Loopback, Close, Read, Lost, Write, Packet, Redirect, Losing, Dump, Flags}

-- there are words of these kinds in front
abbrev pub begin_with : List WordKind → List (List ℕ) → Bool
begin_with [] words = true
begin_with (kind ∷ kinds) [] = false
begin_with (kind ∷ kinds) (word ∷ words) = is_of kind word && begin_with kinds words

-- there are as many
abbrev pub as_many : List WordKind → List (List ℕ) → Bool
as_many [] [] = true
as_many [] (word ∷ words) = false
as_many (kind ∷ kinds) [] = false
as_many (kind ∷ kinds) (word ∷ words) = as_many kinds words

-- there are words of these kinds, and no other
abbrev pub are_just : List WordKind → List (List ℕ) → Bool
are_just kinds words = as_many kinds words && begin_with kinds words

pub no_fault_among : (kinds : List WordKind) (place : ℕ) (words : List (List ℕ)) (behind : Option LineFault) (right : Bool) → is_none behind ≡ right
    → is_none (first_of (fault_among place kinds words) behind) ≡ (begin_with kinds words && right)
no_fault_among [] place words behind right is = is
no_fault_among (kind ∷ kinds) place [] behind right is = refl
no_fault_among (kind ∷ kinds) place (word ∷ words) behind right is =
    elim (is_of kind word)
    as (λ (t : Bool). is_none (first_of (cond t (fault_among (place + 1) kinds words) (Some (fault place (Word kind)))) behind) ≡ ((t && begin_with kinds words) && right)) [
      | true ↦ no_fault_among kinds (place + 1) words behind right is
      | false ↦ refl
    ]

-- there are fewer words than kinds
abbrev pub are_fewer : List WordKind → List (List ℕ) → Bool
are_fewer [] words = false
are_fewer (kind ∷ kinds) [] = true
are_fewer (kind ∷ kinds) (word ∷ words) = are_fewer kinds words

begin_with-fewer : (kinds : List WordKind) (words : List (List ℕ)) → are_fewer kinds words ≡ true → begin_with kinds words ≡ false
begin_with-fewer [] words fewer = cc fewer
begin_with-fewer (kind ∷ kinds) [] fewer = refl
begin_with-fewer (kind ∷ kinds) (word ∷ words) fewer = rw (begin_with-fewer kinds words fewer) (and-false (is_of kind word))

pub too_few : (kinds : List WordKind) (place : ℕ) (words : List (List ℕ)) (behind : Option LineFault) → are_fewer kinds words ≡ true
    → is_none (first_of (fault_among place kinds words) behind) ≡ false
too_few kinds place words behind fewer =
    no_fault_among kinds place words behind (is_none behind) refl
    ∙ ap (λ (t : Bool). t && is_none behind) (begin_with-fewer kinds words fewer)

-- no word is left
abbrev pub none_left : List (List ℕ) → Bool
none_left [] = true
none_left (word ∷ words) = false

more_says : (place : ℕ) (words : List (List ℕ)) → is_none (fault_of_more place words) ≡ none_left words
more_says place [] = refl
more_says place (word ∷ words) = refl

just_says : (kinds : List WordKind) (words : List (List ℕ)) → (begin_with kinds words && none_left (drop (length kinds) words)) ≡ are_just kinds words
just_says [] [] = refl
just_says [] (word ∷ words) = refl
just_says (kind ∷ kinds) [] = refl
just_says (kind ∷ kinds) (word ∷ words) =
    elim (is_of kind word)
    as (λ (t : Bool). ((t && begin_with kinds words) && none_left (drop (length kinds) words)) ≡ (as_many kinds words && (t && begin_with kinds words))) [
      | true ↦ just_says kinds words
      | false ↦ sym (and-false (as_many kinds words))
    ]

-- of a verb that has these words behind it, and no other
pub just_these : (kinds : List WordKind) (words : List (List ℕ)) (right : Bool) → are_just kinds words ≡ right
    → is_none (first_of (fault_among 1 kinds words) (fault_of_more (1 + length kinds) (drop (length kinds) words))) ≡ right
just_these kinds words right is =
    no_fault_among kinds 1 words (fault_of_more (1 + length kinds) (drop (length kinds) words)) (none_left (drop (length kinds) words)) (more_says (1 + length kinds) (drop (length kinds) words))
    ∙ just_says kinds words
    ∙ is

-- ---- forms

pub attach_row : (words : List (List ℕ)) → are_just (words_of If) words ≡ is_some (attach_form words)
attach_row (name ∷ kind ∷ type ∷ link ∷ []) =
    sym (then_says (name_of name) _ _ (λ _. then_says (interface_kind_of kind) _ _ (λ _. then_says (number_to 255 type) _ _ (λ _. then_says (bytes_to most_link_bytes link) _ true (λ _. refl)))))
attach_row words = refl

pub remove_row : (words : List (List ℕ)) → are_just (words_of Unaddr) words ≡ is_some (remove_address_form words)
remove_row (name ∷ address ∷ []) = sym (then_says (name_of name) _ _ (λ _. then_says (inet_of address) _ true (λ _. refl)))
remove_row words = refl

pub open_row : (words : List (List ℕ)) → are_just (words_of Open) words ≡ is_some (open_form words)
open_row (id ∷ pid ∷ protocol ∷ []) =
    sym (then_says (name_of id) _ _ (λ _. then_says (number_to 4294967295 pid) _ _ (λ _. then_says (protocol_of protocol) _ true (λ _. refl))))
open_row words = refl

pub loopback_row : (words : List (List ℕ)) → are_just (words_of Loopback) words ≡ is_some (loopback_form words)
loopback_row (id ∷ switch ∷ []) = sym (then_says (name_of id) _ _ (λ _. then_says (switch_of switch) _ true (λ _. refl)))
loopback_row words = refl

pub close_row : (words : List (List ℕ)) → are_just (words_of Close) words ≡ is_some (close_form words)
close_row (id ∷ []) = sym (then_says (name_of id) _ true (λ _. refl))
close_row words = refl

pub read_row : (words : List (List ℕ)) → are_just (words_of Read) words ≡ is_some (read_form words)
read_row (id ∷ []) = sym (then_says (name_of id) _ true (λ _. refl))
read_row words = refl

pub lost_row : (words : List (List ℕ)) → are_just (words_of Lost) words ≡ is_some (lost_form words)
lost_row (id ∷ []) = sym (then_says (name_of id) _ true (λ _. refl))
lost_row words = refl

pub write_row : (words : List (List ℕ)) → are_just (words_of Write) words ≡ is_some (write_form words)
write_row (id ∷ bytes ∷ []) = sym (then_says (name_of id) _ _ (λ _. then_says (bytes_to MOST_WRITTEN bytes) _ true (λ _. refl)))
write_row words = refl

pub packet_row : (words : List (List ℕ)) → are_just (words_of Packet) words ≡ is_some (packet_form words)
packet_row (to ∷ []) = sym (then_says (inet_of to) _ true (λ _. refl))
packet_row words = refl

pub redirect_row : (words : List (List ℕ)) → are_just (words_of Redirect) words ≡ is_some (redirect_form words)
redirect_row (to ∷ by ∷ from ∷ []) =
    sym (then_says (inet_of to) _ _ (λ _. then_says (inet_of by) _ _ (λ _. then_says (inet_of from) _ true (λ _. refl))))
redirect_row words = refl

pub losing_row : (words : List (List ℕ)) → are_just (words_of Losing) words ≡ is_some (losing_form words)
losing_row (to ∷ []) = sym (then_says (inet_of to) _ true (λ _. refl))
losing_row words = refl

-- `ask` or a number
dump_says : (filter : Option ℕ) (word : List ℕ) → is_some (dump_of filter word) ≡ (bytes_eq word (codes "ask") || is_some (number_to 4294967295 word))
dump_says filter word =
    either_says (bytes_eq word (codes "ask")) _ (dump_into filter word)
    ∙ ap (λ (t : Bool). bytes_eq word (codes "ask") || t) (then_made (number_to 4294967295 word) _ (λ _. refl))

and_true : (b : Bool) → (b && true) ≡ b
and_true true = refl
and_true false = refl

pub dump_row : (words : List (List ℕ)) → are_just (words_of Dump) words ≡ is_some (dump_form words)
dump_row (word ∷ []) = and_true (bytes_eq word (codes "ask") || is_some (number_to 4294967295 word)) ∙ sym (dump_says None word)
dump_row words = refl

pub flags_row : (words : List (List ℕ)) → are_just (words_of Flags) words ≡ is_some (flags_form words)
flags_row (flags ∷ word ∷ []) =
    let room = bytes_eq word (codes "ask") || is_some (number_to 4294967295 word) in
    sym (then_says (hex_number_of flags) _ (room && true) (λ x. dump_says (Some x) word ∙ sym (and_true room)))
flags_row words = refl
