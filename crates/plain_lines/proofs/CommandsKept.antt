-- A line that says a command is its own plain line.
use Prim.Native.String.{String}
use Rattle.std.proofs.Common.{◌≡◌, ◌∙◌, ◌&&◌, ℕ, nat_lt, Bool, true, false, List, [], ◌∷◌, length, codes, bytes_eq, refl, sym, ap, subst, Option, Some, None, is_some}
use Rattle.std.specs.Prelude.{not, if◌then◌else◌}
use Rattle.std.specs.Fmt.{digits}
use Rattle.std.specs.List.{join_with_byte}
use Rattle.std.proofs.lemmas.Bool.{and_parts}
use Rattle.std.proofs.lemmas.List.Splits.{join_with_byte-slice_split}
use Rattle.std.proofs.lemmas.Slice.Eq.{bytes_eq-Decides}
use Rattle.event_file.specs.Grammar.{by_forms, command_of, dump_form, dump_of, flags_form, forms, route_form, said_by}
use Rattle.event_file.specs.Lines.{most_line_bytes}
use Rattle.event_file.specs.RouteLine.{address_options, behind_addresses, behind_bits, bit_options, destination_of, hex_if_written, if_none_left, message_of, metric_options, number_if_written, option_behind, route_words_of, verb_of, words_behind_all}
use Rattle.event_file.specs.Words.{◌>>=◌, hex_number_of, name_of, number_to, option_written, parted_by, words_behind}
use Rattle.plain_lines.specs.PlainLines.{number_of, plain_behind, plain_dump, plain_filter, plain_flags, plain_of, plain_options, plain_room, plain_route, plain_words}
use Rattle.plain_lines.proofs.HexWords.{flags_of-hex, hex_number_of-hex}
use Rattle.plain_lines.proofs.PartedWords.{other}

-- what stands on the value of a first step that the second went on with
inside_bind : {A B : Type 0} (o : Option A) (f : A → Option B) (P : Type 0) → is_some (o >>= f) ≡ true → ((x : A) → o ≡ Some x → is_some (f x) ≡ true → P) → P
inside_bind (Some x) f P some p = p x refl some
inside_bind None f P some p = cc some

the_same : (a b : List ℕ) → bytes_eq a b ≡ true → a ≡ b
the_same a b e = (bytes_eq-Decides a b).0 e

-- ---- words

kept_flags : (word : List ℕ) → is_some (hex_number_of word) ≡ true → plain_flags word ≡ word
kept_flags word some = ap (number_of word) (flags_of-hex word (hex_number_of-hex word some))

all_is_no_number : number_to 4294967295 (codes "all") ≡ None
unfolding digits
all_is_no_number = refl

all_is_no_room : (filter : Option ℕ) → dump_of filter (codes "all") ≡ None
all_is_no_room filter = rw all_is_no_number refl

kept_room : (filter : Option ℕ) (word : List ℕ) → is_some (dump_of filter word) ≡ true → plain_room word ≡ word
kept_room filter word some =
    elim (bytes_eq word (codes "all")) as (λ t. bytes_eq word (codes "all") ≡ t → (if t then codes "4294967295" else word) ≡ word) [
      | true ↦ λ e.
          let dumps : is_some (dump_of filter (codes "all")) ≡ true = subst (λ (w : List ℕ). is_some (dump_of filter w) ≡ true) (the_same word (codes "all") e) some in
          let none : is_some (dump_of filter (codes "all")) ≡ false = ap is_some (all_is_no_room filter) in
          cc (dumps, none)
      | false ↦ λ _. refl
    ] refl

kept_dump : (words : List (List ℕ)) → is_some (dump_form words) ≡ true → plain_dump words ≡ words
kept_dump [] some = refl
kept_dump (room ∷ []) some = ap (λ (w : List ℕ). w ∷ []) (kept_room None room some)
kept_dump (room ∷ next ∷ rest) some = cc some

kept_filter : (words : List (List ℕ)) → is_some (flags_form words) ≡ true → plain_filter words ≡ words
kept_filter [] some = refl
kept_filter (flags ∷ []) some = cc some
kept_filter (flags ∷ room ∷ []) some =
    inside_bind (hex_number_of flags) (λ n. dump_of (Some n) room) _ some
    (λ n is dumps. ap (λ (w : List ℕ). w ∷ plain_room room ∷ []) (kept_flags flags (ap is_some is)) ∙ ap (λ (w : List ℕ). flags ∷ w ∷ []) (kept_room (Some n) room dumps))
kept_filter (flags ∷ room ∷ next ∷ rest) some = cc some

-- ---- options

abbrev Kept : List (List ℕ) → Type 0
Kept words = plain_options words ≡ words

pair_kept : (t : Bool) (name word : List ℕ) (rest : List (List ℕ)) → bytes_eq name (codes "flags") ≡ t → (if t then plain_flags word else word) ≡ word → Kept rest → Kept (name ∷ word ∷ rest)
pair_kept t name word rest e same behind =
    ap (λ (b : Bool). name ∷ (if b then plain_flags word else word) ∷ plain_options rest) e
    ∙ ap (λ (w : List ℕ). name ∷ w ∷ plain_options rest) same
    ∙ ap (λ (ws : List (List ℕ)). name ∷ word ∷ ws) behind

-- an option of another name
kept_option : (name : List ℕ) (words : List (List ℕ)) → bytes_eq name (codes "flags") ≡ false → Kept (words_behind name words) → Kept words
kept_option name [] differs kept = refl
kept_option name (first ∷ []) differs kept = refl
kept_option name (first ∷ word ∷ rest) differs kept =
    elim (bytes_eq first name) as (λ t. bytes_eq first name ≡ t → Kept (if t then rest else first ∷ word ∷ rest) → Kept (first ∷ word ∷ rest)) [
      | true ↦ λ e behind. pair_kept false first word rest (ap (λ (w : List ℕ). bytes_eq w (codes "flags")) (the_same first name e) ∙ differs) refl behind
      | false ↦ λ _ all. all
    ] refl kept

abbrev no_flags : List String → Bool
no_flags [] = true
no_flags (name ∷ names) = not (bytes_eq (codes name) (codes "flags")) && no_flags names

kept_options : (names : List String) (words : List (List ℕ)) → no_flags names ≡ true → Kept (words_behind_all names words) → Kept words
kept_options [] words none kept = kept
kept_options (name ∷ names) words none kept =
    let (first, rest) = and_parts (not (bytes_eq (codes name) (codes "flags"))) (no_flags names) none in
    kept_option (codes name) words (other (bytes_eq (codes name) (codes "flags")) first) (kept_options names (words_behind (codes name) words) rest kept)

kept_flags_option : (words : List (List ℕ)) → is_some (hex_if_written (option_written (codes "flags") words)) ≡ true → Kept (words_behind (codes "flags") words) → Kept words
kept_flags_option [] hex kept = refl
kept_flags_option (first ∷ []) hex kept = refl
kept_flags_option (first ∷ word ∷ rest) hex kept =
    elim (bytes_eq first (codes "flags"))
    as (λ t. bytes_eq first (codes "flags") ≡ t → is_some (hex_if_written (if t then Some word else None)) ≡ true → Kept (if t then rest else first ∷ word ∷ rest) → Kept (first ∷ word ∷ rest)) [
      | true ↦ λ e some behind. pair_kept true first word rest e (kept_flags word some) behind
      | false ↦ λ _ _ all. all
    ] refl hex kept

none_left : {T : Type 0} (words : List (List ℕ)) (value : T) → is_some (if_none_left words value) ≡ true → words ≡ []
none_left [] value some = refl
none_left (word ∷ words) value some = cc some

abbrev first_metrics : List String
first_metrics = "mtu" ∷ "hopcount" ∷ "expire" ∷ "recvpipe" ∷ []

abbrev last_metrics : List String
last_metrics = "sendpipe" ∷ "ssthresh" ∷ "rtt" ∷ "rttvar" ∷ []

kept_metrics : (words : List (List ℕ)) → is_some (metric_options words) ≡ true → Kept words
kept_metrics words some =
    let behind = words_behind_all first_metrics words in
    let read : (names : List String) (name : String) (ws : List (List ℕ)) → Option (Option ℕ) = λ names name ws. number_if_written (option_behind names name ws) in
    inside_bind (read [] "mtu" words) _ (Kept words) some (λ _ _ h1.
    inside_bind (read ("mtu" ∷ []) "hopcount" words) _ (Kept words) h1 (λ _ _ h2.
    inside_bind (read ("mtu" ∷ "hopcount" ∷ []) "expire" words) _ (Kept words) h2 (λ _ _ h3.
    inside_bind (read ("mtu" ∷ "hopcount" ∷ "expire" ∷ []) "recvpipe" words) _ (Kept words) h3 (λ _ _ h4.
    inside_bind (read [] "sendpipe" behind) _ (Kept words) h4 (λ _ _ h5.
    inside_bind (read ("sendpipe" ∷ []) "ssthresh" behind) _ (Kept words) h5 (λ _ _ h6.
    inside_bind (read ("sendpipe" ∷ "ssthresh" ∷ []) "rtt" behind) _ (Kept words) h6 (λ _ _ h7.
    inside_bind (read ("sendpipe" ∷ "ssthresh" ∷ "rtt" ∷ []) "rttvar" behind) _ (Kept words) h7 (λ _ _ h8.
    let none : words_behind_all last_metrics behind ≡ [] = none_left (words_behind_all last_metrics behind) _ h8 in
    kept_options first_metrics words refl (kept_options last_metrics behind refl (subst Kept (sym none) refl))))))))))

kept_bits : (words : List (List ℕ)) → is_some (bit_options words) ≡ true → Kept (behind_bits words) → Kept words
kept_bits words some kept =
    inside_bind (hex_if_written (option_behind [] "flags" words)) _ (Kept words) some
    (λ n is _. kept_flags_option words (ap is_some is) (kept_options ("inits" ∷ "locks" ∷ []) (words_behind (codes "flags") words) refl kept))

kept_all : (options : List (List ℕ)) → is_some (bit_options (behind_addresses options)) ≡ true → is_some (metric_options (behind_bits (behind_addresses options))) ≡ true → Kept options
kept_all options bits metrics =
    kept_options ("via" ∷ "genmask" ∷ "ifp" ∷ "ifa" ∷ []) options refl
    (kept_bits (behind_addresses options) bits (kept_metrics (behind_bits (behind_addresses options)) metrics))

kept_said : (seq verb to : List ℕ) (options : List (List ℕ)) → is_some (route_words_of (seq ∷ verb ∷ to ∷ options)) ≡ true → Kept options
kept_said seq verb to options some =
    inside_bind (number_to 4294967295 seq) _ (Kept options) some (λ _ _ h1.
    inside_bind (verb_of verb) _ (Kept options) h1 (λ _ _ h2.
    inside_bind (destination_of to) _ (Kept options) h2 (λ _ _ h3.
    inside_bind (address_options options) _ (Kept options) h3 (λ _ _ h4.
    inside_bind (bit_options (behind_addresses options)) _ (Kept options) h4 (λ _ bits h5.
    inside_bind (metric_options (behind_bits (behind_addresses options))) _ (Kept options) h5 (λ _ metrics _.
    kept_all options (ap is_some bits) (ap is_some metrics)))))))

kept_route : (words : List (List ℕ)) → is_some (route_form words) ≡ true → plain_route words ≡ words
kept_route [] some = refl
kept_route (id ∷ []) some = refl
kept_route (id ∷ seq ∷ []) some = refl
kept_route (id ∷ seq ∷ verb ∷ []) some = refl
kept_route (id ∷ seq ∷ verb ∷ to ∷ options) some =
    let said = seq ∷ verb ∷ to ∷ options in
    ap (λ (ws : List (List ℕ)). id ∷ seq ∷ verb ∷ to ∷ ws)
    (inside_bind (name_of id) _ (Kept options) some (λ _ _ h1.
    inside_bind (message_of said) _ (Kept options) h1 (λ _ is _.
    inside_bind (route_words_of said) _ (Kept options) (ap is_some is) (λ _ are _.
    kept_said seq verb to options (ap is_some are)))))

-- ---- lines

kept_behind : (verb : List ℕ) (words : List (List ℕ)) → is_some (by_forms forms verb words) ≡ true → plain_behind verb words ≡ words
kept_behind verb words some =
    let says : (v : List ℕ) → bytes_eq verb v ≡ true → is_some (by_forms forms v words) ≡ true =
    λ v e. subst (λ (w : List ℕ). is_some (by_forms forms w words) ≡ true) (the_same verb v e) some in
    let by_flags : Bool → List (List ℕ) = λ t. if t then plain_filter words else words in
    let by_dump : Bool → List (List ℕ) = λ t. if t then plain_dump words else by_flags (bytes_eq verb (codes "flags")) in
    let by_route : Bool → List (List ℕ) = λ t. if t then plain_route words else by_dump (bytes_eq verb (codes "dump")) in
    elim (bytes_eq verb (codes "route")) as (λ t. bytes_eq verb (codes "route") ≡ t → by_route t ≡ words) [
      | true ↦ λ e. kept_route words (says (codes "route") e)
      | false ↦ λ _.
          elim (bytes_eq verb (codes "dump")) as (λ t. bytes_eq verb (codes "dump") ≡ t → by_dump t ≡ words) [
            | true ↦ λ e. kept_dump words (says (codes "dump") e)
            | false ↦ λ _.
                elim (bytes_eq verb (codes "flags")) as (λ t. bytes_eq verb (codes "flags") ≡ t → by_flags t ≡ words) [
                  | true ↦ λ e. kept_filter words (says (codes "flags") e)
                  | false ↦ λ _. refl
                ] refl
          ] refl
    ] refl

kept_words : (words : List (List ℕ)) → is_some (said_by words) ≡ true → plain_words words ≡ words
kept_words [] some = refl
kept_words (verb ∷ words) some = ap (λ (ws : List (List ℕ)). verb ∷ ws) (kept_behind verb words some)

pub commands_stay : (line : List ℕ) → is_some (command_of line) ≡ true → plain_of line ≡ line
commands_stay line some =
    elim (nat_lt most_line_bytes (length line)) as (λ t. is_some (if t then None else said_by (parted_by 32 line)) ≡ true → plain_of line ≡ line) [
      | true ↦ λ none. cc none
      | false ↦ λ said. ap (join_with_byte 32) (kept_words (parted_by 32 line) said) ∙ join_with_byte-slice_split 32 line
    ] some
