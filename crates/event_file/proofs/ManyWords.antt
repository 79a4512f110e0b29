-- How many words the forms have: too few are none, and so are more than 34 behind `route` and than 5 behind another
-- verb.
use Prim.Native.String.{String}
use Rattle.std.proofs.Common.{◌≡◌, ◌<◌, ◌≤◌, ◌+◌, ◌*◌, ℕ, Bool, true, false, cond, List, [], ◌∷◌, length, refl, arith, codes, bytes_eq, Option, Some, None}
use Rattle.std.specs.Prelude.{⊤}
use Rattle.std.proofs.lemmas.Slice.Eq.{bytes_eq-Decides}
use Rattle.event_file.specs.declared.route_words.MetricWords.{MetricWords}
use Rattle.event_file.specs.declared.route_words.RouteWords.{RouteWords}
use Rattle.event_file.specs.Grammar.{Form, add_address_form, by_forms, attach_form, cloning_of, close_form, dump_form, flags_form, forms, inet_if_written, loopback_form, open_form, packet_form, read_form, lost_form, losing_form, redirect_form, remove_address_form, route_form, route_forms, write_form}
use Rattle.event_file.specs.RouteLine.{address_options, behind_addresses, behind_bits, bit_options, destination_of, if_none_left, message_of, metric_options, number_if_written, option_behind, route_words_of, verb_of, words_behind_all}
use Rattle.event_file.specs.Words.{name_of, number_to, option_written, words_behind}
use Rattle.event_file.proofs.ReadForms.{EachSays, by_forms-says}
use Rattle.event_file.proofs.ReadWords.{bind_some}
use Rattle.route_core.specs.Commands.{Command}

-- ---- too few

pub add_address_form-few : (words : List (List ℕ)) → length words < 2 → None ≡ add_address_form words
add_address_form-few [] few = refl
add_address_form-few (name ∷ []) few = refl
add_address_form-few (name ∷ address ∷ options) few = absurd (omega (arith, few))

pub redirect_form-few : (words : List (List ℕ)) → length words < 3 → None ≡ redirect_form words
redirect_form-few [] few = refl
redirect_form-few (a ∷ []) few = refl
redirect_form-few (a ∷ b ∷ []) few = refl
redirect_form-few (a ∷ b ∷ c ∷ words) few = absurd (omega (arith, few))

pub redirect_form-many : (words : List (List ℕ)) → 4 ≤ length words → None ≡ redirect_form words
redirect_form-many (a ∷ b ∷ c ∷ d ∷ words) many = refl
redirect_form-many [] many = absurd (omega (arith, many))
redirect_form-many (a ∷ []) many = absurd (omega (arith, many))
redirect_form-many (a ∷ b ∷ []) many = absurd (omega (arith, many))
redirect_form-many (a ∷ b ∷ c ∷ []) many = absurd (omega (arith, many))

-- ---- options

-- an option is two words
length-words_behind : (name : List ℕ) (words : List (List ℕ)) → length words ≤ length (words_behind name words) + 2
length-words_behind name [] = omega arith
length-words_behind name (first ∷ []) = omega arith
length-words_behind name (first ∷ word ∷ rest) =
    elim (bytes_eq first name) as (λ (t : Bool). length (first ∷ word ∷ rest) ≤ length (cond t rest (first ∷ word ∷ rest)) + 2) [ true ↦ omega arith | false ↦ omega arith ]

length-words_behind_all : (names : List String) (words : List (List ℕ)) → length words ≤ length (words_behind_all names words) + 2 * length names
length-words_behind_all [] words = omega arith
length-words_behind_all (name ∷ names) words =
    omega (arith, length-words_behind (codes name) words, length-words_behind_all names (words_behind (codes name) words))

none_left : {T : Type 0} (words : List (List ℕ)) (value said : T) → if_none_left words value ≡ Some said → length words ≡ 0
none_left [] value said h = refl
none_left (word ∷ words) value said h = cc h

metric_options-most : (words : List (List ℕ)) (metrics : MetricWords) → metric_options words ≡ Some metrics → length words ≤ 16
metric_options-most words metrics h =
    let first : List String = "mtu" ∷ "hopcount" ∷ "expire" ∷ "recvpipe" ∷ [] in
    let behind = words_behind_all first words in
    let (a, _, ha) = bind_some (number_if_written (option_behind [] "mtu" words)) _ metrics h in
    let (b, _, hb) = bind_some (number_if_written (option_behind ("mtu" ∷ []) "hopcount" words)) _ metrics ha in
    let (c, _, hc) = bind_some (number_if_written (option_behind ("mtu" ∷ "hopcount" ∷ []) "expire" words)) _ metrics hb in
    let (d, _, hd) = bind_some (number_if_written (option_behind ("mtu" ∷ "hopcount" ∷ "expire" ∷ []) "recvpipe" words)) _ metrics hc in
    let (e, _, he) = bind_some (number_if_written (option_behind [] "sendpipe" behind)) _ metrics hd in
    let (f, _, hf) = bind_some (number_if_written (option_behind ("sendpipe" ∷ []) "ssthresh" behind)) _ metrics he in
    let (g, _, hg) = bind_some (number_if_written (option_behind ("sendpipe" ∷ "ssthresh" ∷ []) "rtt" behind)) _ metrics hf in
    let (i, _, hi) = bind_some (number_if_written (option_behind ("sendpipe" ∷ "ssthresh" ∷ "rtt" ∷ []) "rttvar" behind)) _ metrics hg in
    let made : MetricWords = record { mtu = a; hopcount = b; expire = c; recvpipe = d; sendpipe = e; ssthresh = f; rtt = g; rttvar = i } in
    let last : List String = "sendpipe" ∷ "ssthresh" ∷ "rtt" ∷ "rttvar" ∷ [] in
    omega (arith, length-words_behind_all first words, length-words_behind_all last behind, none_left (words_behind_all last behind) made metrics hi)

route_words_of-most : (words : List (List ℕ)) (said : RouteWords) → route_words_of words ≡ Some said → length words ≤ 33
route_words_of-most (seq ∷ verb ∷ to ∷ options) said h =
    let (s, _, hs) = bind_some (number_to 4294967295 seq) _ said h in
    let (v, _, hv) = bind_some (verb_of verb) _ said hs in
    let (d, _, hd) = bind_some (destination_of to) _ said hv in
    let (a, _, ha) = bind_some (address_options options) _ said hd in
    let (b, _, hb) = bind_some (bit_options (behind_addresses options)) _ said ha in
    let (m, is, _) = bind_some (metric_options (behind_bits (behind_addresses options))) _ said hb in
    omega (
      arith,
      length-words_behind_all ("via" ∷ "genmask" ∷ "ifp" ∷ "ifa" ∷ []) options,
      length-words_behind_all ("flags" ∷ "inits" ∷ "locks" ∷ []) (behind_addresses options),
      metric_options-most (behind_bits (behind_addresses options)) m is,
    )
route_words_of-most words said h = cc h

-- ---- forms

attach_form-most : (words : List (List ℕ)) (command : Command) → attach_form words ≡ Some command → length words ≤ 5
attach_form-most (name ∷ kind ∷ type ∷ link ∷ []) command h = omega arith
attach_form-most words command h = cc h

cloning_of-most : (words : List (List ℕ)) (cloning : Bool) → cloning_of words ≡ Some cloning → length words ≤ 1
cloning_of-most [] cloning h = omega arith
cloning_of-most (option ∷ []) cloning h = omega arith
cloning_of-most words cloning h = cc h

add_address_form-most : (words : List (List ℕ)) (command : Command) → add_address_form words ≡ Some command → length words ≤ 5
add_address_form-most (name ∷ address ∷ options) command h =
    let (far, _, hf) = bind_some (inet_if_written (option_written (codes "to") options)) _ command h in
    let (cloning, is, _) = bind_some (cloning_of (words_behind (codes "to") options)) _ command hf in
    omega (arith, length-words_behind (codes "to") options, cloning_of-most (words_behind (codes "to") options) cloning is)
add_address_form-most words command h = cc h

remove_address_form-most : (words : List (List ℕ)) (command : Command) → remove_address_form words ≡ Some command → length words ≤ 5
remove_address_form-most (name ∷ address ∷ []) command h = omega arith
remove_address_form-most words command h = cc h

open_form-most : (words : List (List ℕ)) (command : Command) → open_form words ≡ Some command → length words ≤ 5
open_form-most (id ∷ pid ∷ protocol ∷ []) command h = omega arith
open_form-most words command h = cc h

loopback_form-most : (words : List (List ℕ)) (command : Command) → loopback_form words ≡ Some command → length words ≤ 5
loopback_form-most (id ∷ switch ∷ []) command h = omega arith
loopback_form-most words command h = cc h

close_form-most : (words : List (List ℕ)) (command : Command) → close_form words ≡ Some command → length words ≤ 5
close_form-most (id ∷ []) command h = omega arith
close_form-most words command h = cc h

read_form-most : (words : List (List ℕ)) (command : Command) → read_form words ≡ Some command → length words ≤ 5
read_form-most (id ∷ []) command h = omega arith
read_form-most words command h = cc h

lost_form-most : (words : List (List ℕ)) (command : Command) → lost_form words ≡ Some command → length words ≤ 5
lost_form-most (id ∷ []) command h = omega arith
lost_form-most words command h = cc h

write_form-most : (words : List (List ℕ)) (command : Command) → write_form words ≡ Some command → length words ≤ 5
write_form-most (id ∷ bytes ∷ []) command h = omega arith
write_form-most words command h = cc h

route_form-most : (words : List (List ℕ)) (command : Command) → route_form words ≡ Some command → length words ≤ 34
route_form-most [] command h = cc h
route_form-most (id ∷ words) command h =
    let (i, _, named) = bind_some (name_of id) _ command h in
    let (m, composes, _) = bind_some (message_of words) _ command named in
    let (said, is, _) = bind_some (route_words_of words) _ m composes in
    omega (arith, route_words_of-most words said is)

packet_form-most : (words : List (List ℕ)) (command : Command) → packet_form words ≡ Some command → length words ≤ 5
packet_form-most (destination ∷ []) command h = omega arith
packet_form-most words command h = cc h

redirect_form-most : (words : List (List ℕ)) (command : Command) → redirect_form words ≡ Some command → length words ≤ 5
redirect_form-most (destination ∷ gateway ∷ author ∷ []) command h = omega arith
redirect_form-most words command h = cc h

losing_form-most : (words : List (List ℕ)) (command : Command) → losing_form words ≡ Some command → length words ≤ 5
losing_form-most (destination ∷ []) command h = omega arith
losing_form-most words command h = cc h

dump_form-most : (words : List (List ℕ)) (command : Command) → dump_form words ≡ Some command → length words ≤ 5
dump_form-most (word ∷ []) command h = omega arith
dump_form-most words command h = cc h

flags_form-most : (words : List (List ℕ)) (command : Command) → flags_form words ≡ Some command → length words ≤ 5
flags_form-most (flags ∷ word ∷ []) command h = omega arith
flags_form-most words command h = cc h

-- ---- lines

by_forms-most : (verb : List ℕ) (words : List (List ℕ)) (command : Command) → bytes_eq verb (codes "route") ≡ false
    → by_forms forms verb words ≡ Some command → length words ≤ 5
by_forms-most verb words command other h =
    let Few : Command → Type 0 = λ _. length words ≤ 5 in
    let not_route : verb ≡ codes "route" → ⊥ = λ is. cc ((bytes_eq-Decides verb (codes "route")).1 is, other) in
    let of_routes : EachSays Few route_forms verb words command = (
      λ _. write_form-most words command,
      (λ is. absurd (not_route is), (λ _. packet_form-most words command, (λ _. redirect_form-most words command, (λ _. losing_form-most words command, (λ _. dump_form-most words command, (λ _. flags_form-most words command, tt)))))),
    ) in
    by_forms-says Few forms verb words command (
      λ _. attach_form-most words command,
      (
        λ _. add_address_form-most words command,
        (
          λ _. remove_address_form-most words command,
          (
            λ _. open_form-most words command,
            (λ _. loopback_form-most words command, (λ _. close_form-most words command, (λ _. read_form-most words command, (λ _. lost_form-most words command, of_routes)))),
          ),
        ),
      ),
    ) h

-- what is no command is none
none_said : (P : Type 0) (o : Option Command) → ((command : Command) → o ≡ Some command → P) → (P → ⊥) → o ≡ None
none_said P None says wrong = refl
none_said P (Some command) says wrong = absurd (wrong (says command refl))

pub many_words : (verb : List ℕ) (words : List (List ℕ)) → bytes_eq verb (codes "route") ≡ false → 5 < length words → by_forms forms verb words ≡ None
many_words verb words other many =
    none_said (length words ≤ 5) (by_forms forms verb words) (λ command. by_forms-most verb words command other) (λ few. omega (arith, few, many))

pub many_route_words : (words : List (List ℕ)) → 34 < length words → route_form words ≡ None
many_route_words words many = none_said (length words ≤ 34) (route_form words) (route_form-most words) (λ few. omega (arith, few, many))

-- a verb alone is no command
abbrev NoneAlone : List Form → Type 0
NoneAlone [] = ⊤
NoneAlone (f ∷ fs) = (f.says [] ≡ None) × NoneAlone fs

no_form : (fs : List Form) (verb : List ℕ) → NoneAlone fs → by_forms fs verb [] ≡ None
no_form [] verb none = refl
no_form (f ∷ fs) verb none =
    elim (bytes_eq verb (codes f.verb)) as (λ t. cond t (f.says []) (by_forms fs verb []) ≡ None) [ true ↦ none.0 | false ↦ no_form fs verb none.1 ]

pub verb_alone : (verb : List ℕ) → by_forms forms verb [] ≡ None
verb_alone verb = no_form forms verb (refl, (refl, (refl, (refl, (refl, (refl, (refl, (refl, (refl, (refl, (refl, (refl, (refl, (refl, (refl, tt)))))))))))))))
