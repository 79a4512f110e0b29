-- Options have no fault just where the grammar reads them.
use Rattle.std.proofs.Common.{◌≡◌, ◌∙◌, ◌+◌, ◌&&◌, ℕ, Bool, true, false, cond, List, [], ◌∷◌, refl, sym, subst, ap, codes, bytes_eq, Option, Some, None}
use Rattle.std.specs.Prelude.{is_none, is_some}
use Rattle.std.proofs.Math.Bool.{and-false}
use Rattle.std.proofs.lemmas.Slice.Eq.{bytes_eq-Decides}
use Rattle.event_file.specs.Grammar.{add_address_form, address_of_parts, cloning_of, inet_if_written}
use Rattle.event_file.specs.RouteLine.{gate_if_written, hex_if_written, mask_if_written, number_if_written}
use Rattle.event_file.specs.Words.{◌>>=◌, gate_of, inet_of, name_of, number_to, option_written, parted_by, words_behind}
use Rattle.line_faults.proofs.Choosing.{mapped, then_made, then_says}
use Rattle.line_faults.proofs.FormRows.{no_fault_among, none_left, too_few}
use Rattle.line_faults.specs.Faults.{fault, fault_behind_to, fault_of_address_options, fault_of_cloning, fault_of_more, fault_of_option, fault_of_options, fault_of_verb, first_of, what_may_come}
use Rattle.line_faults.specs.Kinds.{are_address_and_prefix, is_of}
use Rattle.line_faults.specs.Options.{option_kind, option_text}
use Rattle.line_faults.specs.Verbs.{words_of}
use Rattle.line_faults.specs.declared.kinds.WordKind.{WordKind}
use Rattle.line_faults.specs.declared.kinds.WordKind.TheVariants.{Address, Gateway, MaskLength, InterfaceAddress, Bits, Metric}
use Rattle.line_faults.specs.declared.options.RouteOption.{RouteOption}
use Rattle.line_faults.specs.declared.verbs.Verb.TheVariants.{Addr}
use Rattle.line_faults.specs.declared.wanted.Wanted.{Wanted}
use Rattle.line_faults.specs.declared.wanted.Wanted.TheVariants.{Cloning, ToOrCloning}

-- one word's test among others
and_one : (a right : Bool) → ((a && true) && right) ≡ (a && right)
and_one true right = refl
and_one false right = refl

-- ---- `to A` and `cloning`

cloning_says : (wanted : Wanted) (place : ℕ) (words : List (List ℕ)) → is_none (fault_of_cloning wanted place words) ≡ is_some (cloning_of words)
cloning_says wanted place [] = refl
cloning_says wanted place (word ∷ []) =
    elim (bytes_eq word (codes "cloning")) as (λ (t : Bool). is_none (cond t (fault_of_more (place + 1) []) (Some (fault place wanted))) ≡ is_some (cond t (Some true) None)) [ true ↦ refl | false ↦ refl ]
cloning_says wanted place (word ∷ next ∷ words) =
    elim (bytes_eq word (codes "cloning")) as (λ (t : Bool). is_none (cond t (fault_of_more (place + 1) (next ∷ words)) (Some (fault place wanted))) ≡ false) [ true ↦ refl | false ↦ refl ]

-- `to` at the end
to_alone : (place : ℕ) (word : List ℕ) → word ≡ codes "to" → is_some (cloning_of (word ∷ [])) ≡ false
to_alone place word is = subst (λ w. is_some (cloning_of (w ∷ [])) ≡ false) (sym is) refl

address_options_say : (place : ℕ) (words : List (List ℕ)) → is_none (fault_of_address_options place words)
    ≡ (is_some (inet_if_written (option_written (codes "to") words)) && is_some (cloning_of (words_behind (codes "to") words)))
address_options_say place [] = refl
address_options_say place (word ∷ []) =
    elim (bytes_eq word (codes "to"))
    as (λ (t : Bool). bytes_eq word (codes "to") ≡ t → is_none (cond t (fault_behind_to (place + 1) []) (fault_of_cloning ToOrCloning place (word ∷ []))) ≡ is_some (cloning_of (word ∷ []))) [
      | true ↦ λ is. sym (to_alone place word ((bytes_eq-Decides word (codes "to")).0 is))
      | false ↦ λ _. cloning_says ToOrCloning place (word ∷ [])
    ] refl
address_options_say place (word ∷ next ∷ words) =
    elim (bytes_eq word (codes "to"))
    as (λ (t : Bool). is_none (cond t (fault_behind_to (place + 1) (next ∷ words)) (fault_of_cloning ToOrCloning place (word ∷ next ∷ words)))
    ≡ (is_some (inet_if_written (cond t (Some next) None)) && is_some (cloning_of (cond t words (word ∷ next ∷ words))))) [
      | true ↦
          no_fault_among (Address ∷ []) (place + 1) (next ∷ words) (fault_of_cloning Cloning (place + 1 + 1) words) (is_some (cloning_of words)) (cloning_says Cloning (place + 1 + 1) words)
          ∙ and_one (is_some (inet_of next)) (is_some (cloning_of words))
          ∙ ap (λ (t : Bool). t && is_some (cloning_of words)) (sym (mapped Some (inet_of next)))
      | false ↦ cloning_says ToOrCloning place (word ∷ next ∷ words)
    ]

parts_say : (name : List ℕ) (parts : List (List ℕ)) (cloning : Bool) (far : Option ℕ) → is_some (address_of_parts name parts cloning far) ≡ (is_some (name_of name) && are_address_and_prefix parts)
parts_say name (address ∷ prefix ∷ []) cloning far =
    then_says (name_of name) _ _ (λ _. then_says (inet_of address) _ _ (λ _. then_made (number_to 32 prefix) _ (λ _. refl)))
parts_say name parts cloning far = sym (and-false (is_some (name_of name)))

-- tests in the grammar's order
reordered : (name address far cloning : Bool) → ((name && (address && true)) && (far && cloning)) ≡ (far && (cloning && (name && address)))
reordered true true true true = refl
reordered true false true true = refl
reordered false address true true = refl
reordered name address true false = and-false (name && (address && true))
reordered name address false cloning = and-false (name && (address && true))

pub add_address_says : (words : List (List ℕ)) → is_none (fault_of_verb Addr words) ≡ is_some (add_address_form words)
add_address_says [] = refl
add_address_says (name ∷ []) = too_few (words_of Addr) 1 (name ∷ []) _ refl
add_address_says (name ∷ address ∷ options) =
    let far = is_some (inet_if_written (option_written (codes "to") options)) in
    let cloning = is_some (cloning_of (words_behind (codes "to") options)) in
    let prefix = are_address_and_prefix (parted_by 47 address) in
    no_fault_among (words_of Addr) 1 (name ∷ address ∷ options) (fault_of_address_options 3 options) (far && cloning) (address_options_say 3 options)
    ∙ reordered (is_some (name_of name)) prefix far cloning
    ∙ sym (then_says (inet_if_written (option_written (codes "to") options)) _ _ (λ end. then_says (cloning_of (words_behind (codes "to") options)) _ _ (λ clones. parts_say name (parted_by 47 address) clones end)))

-- ---- the options of a route

-- the option's word, where it is written, is of its kind
abbrev pub written_of : WordKind → Option (List ℕ) → Bool
written_of kind None = true
written_of kind (Some word) = is_of kind word

-- and so are those of these options, behind which no word is left
abbrev pub all_written : List RouteOption → List (List ℕ) → Bool
all_written [] words = none_left words
all_written (o ∷ options) words =
    written_of (option_kind o) (option_written (option_text o) words) && all_written options (words_behind (option_text o) words)

-- a word alone is no option
lone : (options : List RouteOption) (word : List ℕ) → all_written options (word ∷ []) ≡ false
lone [] word = refl
lone (o ∷ options) word = lone options word

pub options_say : (wanted : Wanted) (place : ℕ) (options : List RouteOption) (words : List (List ℕ)) → is_none (fault_of_options wanted place options words) ≡ all_written options words
options_say wanted place [] [] = refl
options_say wanted place [] (word ∷ words) = refl
options_say wanted place (o ∷ options) [] = options_say wanted place options []
options_say wanted place (o ∷ options) (word ∷ []) =
    elim (bytes_eq word (option_text o))
    as (λ (t : Bool). is_none (cond t (first_of (fault_of_option o (place + 1) []) (fault_of_options (what_may_come options) (place + 2) options [])) (fault_of_options wanted place options (word ∷ [])))
    ≡ all_written options (word ∷ [])) [
      | true ↦ sym (lone options word)
      | false ↦ options_say wanted place options (word ∷ [])
    ]
options_say wanted place (o ∷ options) (word ∷ next ∷ words) =
    elim (bytes_eq word (option_text o))
    as (λ (t : Bool). is_none (cond t (first_of (fault_of_option o (place + 1) (next ∷ words)) (fault_of_options (what_may_come options) (place + 2) options words)) (fault_of_options wanted place options (word ∷ next ∷ words)))
    ≡ (written_of (option_kind o) (cond t (Some next) None) && all_written options (cond t words (word ∷ next ∷ words)))) [
      | true ↦
          no_fault_among (option_kind o ∷ []) (place + 1) (next ∷ words) (fault_of_options (what_may_come options) (place + 2) options words) (all_written options words) (options_say (what_may_come options) (place + 2) options words)
          ∙ and_one (is_of (option_kind o) next) (all_written options words)
      | false ↦ options_say wanted place options (word ∷ next ∷ words)
    ]

-- ---- what the grammar reads of them

-- a step that reads so much, and then a second
pub read_then : {A B : Type 0} (o : Option A) (f : A → Option B) (left right : Bool) → is_some o ≡ left → ((x : A) → is_some (f x) ≡ right) → is_some (o >>= f) ≡ (left && right)
read_then o f left right is then = then_says o f right then ∙ ap (λ (t : Bool). t && right) is

pub gate_says : (word : Option (List ℕ)) → is_some (gate_if_written word) ≡ written_of Gateway word
gate_says None = refl
gate_says (Some word) = mapped Some (gate_of word)

pub interface_says : (word : Option (List ℕ)) → is_some (gate_if_written word) ≡ written_of InterfaceAddress word
interface_says None = refl
interface_says (Some word) = mapped Some (gate_of word)

pub mask_says : (word : Option (List ℕ)) → is_some (mask_if_written word) ≡ written_of MaskLength word
mask_says None = refl
mask_says (Some word) = mapped Some (number_to 32 word)

pub number_says : (word : Option (List ℕ)) → is_some (number_if_written word) ≡ written_of Metric word
number_says None = refl
number_says (Some word) = mapped Some (number_to 4294967295 word)

pub bits_say : (word : Option (List ℕ)) → is_some (hex_if_written word) ≡ written_of Bits word
bits_say None = refl
bits_say (Some word) = refl
