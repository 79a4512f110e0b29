-- The words behind `route` have no fault just where the grammar reads them.
use Rattle.std.proofs.Common.{◌≡◌, ◌∙◌, ◌&&◌, ℕ, Bool, true, false, List, [], ◌∷◌, refl, sym, ap, subst, None}
use Rattle.std.specs.Prelude.{is_none, is_some}
use Rattle.std.proofs.Math.Bool.{and-false}
use Rattle.event_file.specs.Grammar.{route_form}
use Rattle.event_file.specs.RouteLine.{address_options, behind_addresses, behind_bits, bit_options, destination_of, gate_if_written, hex_if_written, if_none_left, mask_if_written, message_of, metric_options, number_if_written, option_behind, route_words_of, verb_of, words_behind_all}
use Rattle.event_file.specs.Words.{name_of, number_to}
use Rattle.line_faults.proofs.Choosing.{then_made, then_says}
use Rattle.line_faults.proofs.FormRows.{no_fault_among, none_left, too_few}
use Rattle.line_faults.proofs.OptionRows.{all_written, bits_say, gate_says, interface_says, mask_says, number_says, options_say, read_then, written_of}
use Rattle.line_faults.specs.Faults.{fault_of_options, fault_of_verb}
use Rattle.line_faults.specs.Options.{all_options}
use Rattle.line_faults.specs.Verbs.{words_of}
use Rattle.line_faults.specs.declared.kinds.WordKind.TheVariants.{Gateway, MaskLength, InterfaceAddress, Bits}
use Rattle.line_faults.specs.declared.options.RouteOption.{RouteOption}
use Rattle.line_faults.specs.declared.options.RouteOption.TheVariants as option
use Rattle.line_faults.specs.declared.verbs.Verb.TheVariants.{Route}
use Rattle.line_faults.specs.declared.wanted.Wanted.TheVariants.{Options}

-- three tests by what they are
parted : {a b c x y z : Bool} → a ≡ x → b ≡ y → c ≡ z → (a && (b && c)) ≡ (x && (y && z))
parted {a} {b} {c} {x} {y} {z} p q r = subst (λ t. (a && (b && c)) ≡ (t && (y && z))) p (subst (λ t. (a && (b && c)) ≡ (a && (t && z))) q (subst (λ t. (a && (b && c)) ≡ (a && (b && t))) r refl))

-- one test behind another
flat_three : (a b c right : Bool) → ((a && (b && (c && true))) && right) ≡ (a && (b && (c && right)))
flat_three true true true right = refl
flat_three true true false right = refl
flat_three true false c right = refl
flat_three false b c right = refl

flat_four : (a b c d right : Bool) → ((a && (b && (c && (d && true)))) && right) ≡ (a && (b && (c && (d && right))))
flat_four true b c d right = flat_three b c d right
flat_four false b c d right = refl

none_left_says : {T : Type 0} (words : List (List ℕ)) (value : T) → is_some (if_none_left words value) ≡ none_left words
none_left_says [] value = refl
none_left_says (word ∷ words) value = refl

abbrev metric_list : List RouteOption
metric_list = option.Mtu ∷ option.Hopcount ∷ option.Expire ∷ option.Recvpipe ∷ option.Sendpipe ∷ option.Ssthresh ∷ option.Rtt ∷ option.Rttvar ∷ []

-- the options from the metrics on
metrics_say : (words : List (List ℕ)) → is_some (metric_options words) ≡ all_written metric_list words
metrics_say words =
    let behind = words_behind_all ("mtu" ∷ "hopcount" ∷ "expire" ∷ "recvpipe" ∷ []) words in
    read_then (number_if_written (option_behind [] "mtu" words)) _ _ _ (number_says (option_behind [] "mtu" words)) (λ _.
    read_then (number_if_written (option_behind ("mtu" ∷ []) "hopcount" words)) _ _ _ (number_says (option_behind ("mtu" ∷ []) "hopcount" words)) (λ _.
    read_then (number_if_written (option_behind ("mtu" ∷ "hopcount" ∷ []) "expire" words)) _ _ _ (number_says (option_behind ("mtu" ∷ "hopcount" ∷ []) "expire" words)) (λ _.
    read_then (number_if_written (option_behind ("mtu" ∷ "hopcount" ∷ "expire" ∷ []) "recvpipe" words)) _ _ _ (number_says (option_behind ("mtu" ∷ "hopcount" ∷ "expire" ∷ []) "recvpipe" words)) (λ _.
    read_then (number_if_written (option_behind [] "sendpipe" behind)) _ _ _ (number_says (option_behind [] "sendpipe" behind)) (λ _.
    read_then (number_if_written (option_behind ("sendpipe" ∷ []) "ssthresh" behind)) _ _ _ (number_says (option_behind ("sendpipe" ∷ []) "ssthresh" behind)) (λ _.
    read_then (number_if_written (option_behind ("sendpipe" ∷ "ssthresh" ∷ []) "rtt" behind)) _ _ _ (number_says (option_behind ("sendpipe" ∷ "ssthresh" ∷ []) "rtt" behind)) (λ _.
    read_then (number_if_written (option_behind ("sendpipe" ∷ "ssthresh" ∷ "rtt" ∷ []) "rttvar" behind)) _ _ _ (number_says (option_behind ("sendpipe" ∷ "ssthresh" ∷ "rtt" ∷ []) "rttvar" behind)) (λ _.
    none_left_says (words_behind_all ("sendpipe" ∷ "ssthresh" ∷ "rtt" ∷ "rttvar" ∷ []) behind) _))))))))

bit_options_say : (words : List (List ℕ)) → is_some (bit_options words)
    ≡ (written_of Bits (option_behind [] "flags" words) && (written_of Bits (option_behind ("flags" ∷ []) "inits" words) && (written_of Bits (option_behind ("flags" ∷ "inits" ∷ []) "locks" words) && true)))
bit_options_say words =
    read_then (hex_if_written (option_behind [] "flags" words)) _ _ _ (bits_say (option_behind [] "flags" words)) (λ _.
    read_then (hex_if_written (option_behind ("flags" ∷ []) "inits" words)) _ _ _ (bits_say (option_behind ("flags" ∷ []) "inits" words)) (λ _.
    read_then (hex_if_written (option_behind ("flags" ∷ "inits" ∷ []) "locks" words)) _ _ true (bits_say (option_behind ("flags" ∷ "inits" ∷ []) "locks" words)) (λ _. refl)))

addresses_say : (words : List (List ℕ)) → is_some (address_options words)
    ≡ (written_of Gateway (option_behind [] "via" words) && (written_of MaskLength (option_behind ("via" ∷ []) "genmask" words)
    && (written_of InterfaceAddress (option_behind ("via" ∷ "genmask" ∷ []) "ifp" words) && (written_of InterfaceAddress (option_behind ("via" ∷ "genmask" ∷ "ifp" ∷ []) "ifa" words) && true))))
addresses_say words =
    read_then (gate_if_written (option_behind [] "via" words)) _ _ _ (gate_says (option_behind [] "via" words)) (λ _.
    read_then (mask_if_written (option_behind ("via" ∷ []) "genmask" words)) _ _ _ (mask_says (option_behind ("via" ∷ []) "genmask" words)) (λ _.
    read_then (gate_if_written (option_behind ("via" ∷ "genmask" ∷ []) "ifp" words)) _ _ _ (interface_says (option_behind ("via" ∷ "genmask" ∷ []) "ifp" words)) (λ _.
    read_then (gate_if_written (option_behind ("via" ∷ "genmask" ∷ "ifp" ∷ []) "ifa" words)) _ _ true (interface_says (option_behind ("via" ∷ "genmask" ∷ "ifp" ∷ []) "ifa" words)) (λ _. refl))))

-- all options, in the grammar's three parts
options_read : (words : List (List ℕ)) → (is_some (address_options words) && (is_some (bit_options (behind_addresses words)) && is_some (metric_options (behind_bits (behind_addresses words))))) ≡ all_written all_options words
options_read words =
    let bits = behind_addresses words in
    let metrics = behind_bits bits in
    let via = written_of Gateway (option_behind [] "via" words) in
    let genmask = written_of MaskLength (option_behind ("via" ∷ []) "genmask" words) in
    let ifp = written_of InterfaceAddress (option_behind ("via" ∷ "genmask" ∷ []) "ifp" words) in
    let ifa = written_of InterfaceAddress (option_behind ("via" ∷ "genmask" ∷ "ifp" ∷ []) "ifa" words) in
    let flags = written_of Bits (option_behind [] "flags" bits) in
    let inits = written_of Bits (option_behind ("flags" ∷ []) "inits" bits) in
    let locks = written_of Bits (option_behind ("flags" ∷ "inits" ∷ []) "locks" bits) in
    parted (addresses_say words) (bit_options_say bits) (metrics_say metrics)
    ∙ flat_four via genmask ifp ifa ((flags && (inits && (locks && true))) && all_written metric_list metrics)
    ∙ ap (λ (t : Bool). via && (genmask && (ifp && (ifa && t)))) (flat_three flags inits locks (all_written metric_list metrics))

-- the words from the sequence number on
words_read : (seq verb to : List ℕ) (options : List (List ℕ)) → is_some (route_words_of (seq ∷ verb ∷ to ∷ options))
    ≡ (is_some (number_to 4294967295 seq) && (is_some (verb_of verb) && (is_some (destination_of to) && all_written all_options options)))
words_read seq verb to options =
    then_says (number_to 4294967295 seq) _ _ (λ _. then_says (verb_of verb) _ _ (λ _. then_says (destination_of to) _ _ (λ _.
    then_says (address_options options) _ _ (λ _. then_says (bit_options (behind_addresses options)) _ _ (λ _. then_made (metric_options (behind_bits (behind_addresses options))) _ (λ _. refl)))
    ∙ options_read options)))

-- a form that the words behind the id are none of
none_behind : (id : List ℕ) (words : List (List ℕ)) → message_of words ≡ None → is_some (route_form (id ∷ words)) ≡ false
none_behind id words none = then_says (name_of id) _ false (λ _. rw none refl) ∙ and-false (is_some (name_of id))

pub route_says : (words : List (List ℕ)) → is_none (fault_of_verb Route words) ≡ is_some (route_form words)
route_says (id ∷ seq ∷ verb ∷ to ∷ options) =
    let right = all_written all_options options in
    no_fault_among (words_of Route) 1 (id ∷ seq ∷ verb ∷ to ∷ options) (fault_of_options (Options option.Via) 5 all_options options) right (options_say (Options option.Via) 5 all_options options)
    ∙ flat_four (is_some (name_of id)) (is_some (number_to 4294967295 seq)) (is_some (verb_of verb)) (is_some (destination_of to)) right
    ∙ sym (then_says (name_of id) _ _ (λ _. then_made (message_of (seq ∷ verb ∷ to ∷ options)) _ (λ _. refl) ∙ then_made (route_words_of (seq ∷ verb ∷ to ∷ options)) _ (λ _. refl) ∙ words_read seq verb to options))
route_says [] = refl
route_says (id ∷ []) = too_few (words_of Route) 1 (id ∷ []) _ refl ∙ sym (none_behind id [] refl)
route_says (id ∷ seq ∷ []) = too_few (words_of Route) 1 (id ∷ seq ∷ []) _ refl ∙ sym (none_behind id (seq ∷ []) refl)
route_says (id ∷ seq ∷ verb ∷ []) = too_few (words_of Route) 1 (id ∷ seq ∷ verb ∷ []) _ refl ∙ sym (none_behind id (seq ∷ verb ∷ []) refl)
