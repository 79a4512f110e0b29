-- Where a fault is, and that the word there isn't as it is wanted.
use Rattle.std.proofs.Common.{◌≡◌, ◌≤◌, ◌+◌, ◌⊎◌, inl, inr, ℕ, zero, suc, Bool, true, false, cond, List, [], ◌∷◌, length, drop, refl, sym, subst, ap, arith, codes, bytes_eq, nat_lt, Option, Some, None}
use Rattle.std.specs.Prelude.{⊤, is_some}
use Rattle.std.specs.Option.{IfSome}
use Rattle.std.proofs.lemmas.Bool.{or_from}
use Rattle.event_file.specs.Lines.{most_line_bytes}
use Rattle.event_file.specs.Words.{parted_by}
use Rattle.line_faults.specs.Faults.{fault, fault_among, fault_behind, fault_behind_to, fault_by_verb, fault_in, fault_of_address_options, fault_of_cloning, fault_of_more, fault_of_option, fault_of_options, fault_of_words, first_of, what_may_come}
use Rattle.line_faults.specs.Kinds.{is_of}
use Rattle.line_faults.specs.Options.{all_options, begins_option, option_kind, option_text, options_from}
use Rattle.line_faults.specs.Verbs.{verb_of, words_of}
use Rattle.line_faults.specs.Wanted.{is_right}
use Rattle.line_faults.specs.Words.{word_of}
use Rattle.line_faults.specs.declared.faults.LineFault.{LineFault}
use Rattle.line_faults.specs.declared.kinds.WordKind.{WordKind}
use Rattle.line_faults.specs.declared.kinds.WordKind.TheVariants.{Address}
use Rattle.line_faults.specs.declared.options.RouteOption.{RouteOption}
use Rattle.line_faults.specs.declared.options.RouteOption.TheVariants.{Via}
use Rattle.line_faults.specs.declared.verbs.Verb.{Verb as VerbWord}
use Rattle.line_faults.specs.declared.verbs.Verb.TheVariants as verb
use Rattle.line_faults.specs.declared.wanted.Wanted.{Wanted}
use Rattle.line_faults.specs.declared.wanted.Wanted.TheVariants.{Verb, Word, Cloning, NothingMore, Options, ShorterLine, ToOrCloning}

-- the fault is at one of the words, the first of which has this place, or behind them, and is a word that isn't right
pub record At (start : ℕ) (words : List (List ℕ)) (f : LineFault) : Type 0 where
  pub passed : ℕ
  pub place : f.place ≡ start + passed
  pub most : passed ≤ length words
  pub wrong : IfSome (word_of words passed) (λ word. is_right f.wanted word ≡ false)

missing : (start : ℕ) (wanted : Wanted) → At start [] (fault start wanted)
missing start wanted = record { passed = 0; place = omega arith; most = omega arith; wrong = tt }

here : (start : ℕ) (word : List ℕ) (words : List (List ℕ)) (wanted : Wanted) → is_right wanted word ≡ false → At start (word ∷ words) (fault start wanted)
here start word words wanted wrong = record { passed = 0; place = omega arith; most = omega arith; wrong = wrong }

behind : (start : ℕ) (word : List ℕ) (words : List (List ℕ)) (f : LineFault) → At (start + 1) words f → At start (word ∷ words) f
behind start word words f at = record { passed = suc at.passed; place = omega (arith, at.place); most = omega (arith, at.most); wrong = at.wrong }

behind_all : (n start : ℕ) (words : List (List ℕ)) (f : LineFault) → n ≤ length words → At (start + n) (drop n words) f → At start words f
behind_all zero start words f fits at = record { passed = at.passed; place = omega (arith, at.place); most = at.most; wrong = at.wrong }
behind_all (suc n) start [] f fits at = absurd (omega (arith, fits))
behind_all (suc n) start (word ∷ words) f fits at =
    behind start word words f (behind_all n (start + 1) words f (omega (arith, fits)) (record { passed = at.passed; place = omega (arith, at.place); most = at.most; wrong = at.wrong }))

moved : (start other : ℕ) (words : List (List ℕ)) (f : LineFault) → start ≡ other → At start words f → At other words f
moved start other words f same at = subst (λ k. At k words f) same at

-- the fault that is told
told : (P : LineFault → Type 0) (f g : LineFault) → Some f ≡ Some g → P f → P g
told P f g same p = let is : f ≡ g = cc same in subst P is p

-- one of two
first_cases : (first second : Option LineFault) (f : LineFault) → first_of first second ≡ Some f → (first ≡ Some f) ⊎ ((first ≡ None) × (second ≡ Some f))
first_cases None second f h = inr (refl, h)
first_cases (Some g) second f h = inl h

among_at : (kinds : List WordKind) (place : ℕ) (words : List (List ℕ)) (f : LineFault) → fault_among place kinds words ≡ Some f → At place words f
among_at [] place words f h = cc h
among_at (kind ∷ kinds) place [] f h = told (At place []) (fault place (Word kind)) f h (missing place (Word kind))
among_at (kind ∷ kinds) place (word ∷ words) f h =
    elim (is_of kind word) as (λ (t : Bool). is_of kind word ≡ t → cond t (fault_among (place + 1) kinds words) (Some (fault place (Word kind))) ≡ Some f → At place (word ∷ words) f) [
      | true ↦ λ _ later. behind place word words f (among_at kinds (place + 1) words f later)
      | false ↦ λ wrong same. told (At place (word ∷ words)) (fault place (Word kind)) f same (here place word words (Word kind) wrong)
    ] refl h

among_passed : (kinds : List WordKind) (place : ℕ) (words : List (List ℕ)) → fault_among place kinds words ≡ None → length kinds ≤ length words
among_passed [] place words h = omega arith
among_passed (kind ∷ kinds) place [] h = cc h
among_passed (kind ∷ kinds) place (word ∷ words) h =
    elim (is_of kind word) as (λ (t : Bool). cond t (fault_among (place + 1) kinds words) (Some (fault place (Word kind))) ≡ None → suc (length kinds) ≤ suc (length words)) [
      | true ↦ λ later. omega (arith, among_passed kinds (place + 1) words later)
      | false ↦ λ none. cc none
    ] h

-- a fault among these kinds, or behind them
then_at : (kinds : List WordKind) (place : ℕ) (words : List (List ℕ)) (more : Option LineFault) (f : LineFault)
    → (more ≡ Some f → At (place + length kinds) (drop (length kinds) words) f) → first_of (fault_among place kinds words) more ≡ Some f → At place words f
then_at kinds place words more f at h = elim (first_cases (fault_among place kinds words) more f h) [
  | inl first ↦ among_at kinds place words f first
  | inr second ↦ behind_all (length kinds) place words f (among_passed kinds place words second.0) (at second.1)
]

more_at : (place : ℕ) (words : List (List ℕ)) (f : LineFault) → fault_of_more place words ≡ Some f → At place words f
more_at place [] f h = cc h
more_at place (word ∷ words) f h = told (At place (word ∷ words)) (fault place NothingMore) f h (here place word words NothingMore refl)

-- ---- `to A` and `cloning`

-- a first word that isn't `cloning` is not as it is wanted
abbrev ClonesElse : Wanted → List (List ℕ) → Type 0
ClonesElse wanted [] = ⊤
ClonesElse wanted (word ∷ words) = bytes_eq word (codes "cloning") ≡ false → is_right wanted word ≡ false

cloning_at : (wanted : Wanted) (place : ℕ) (words : List (List ℕ)) (f : LineFault) → ClonesElse wanted words → fault_of_cloning wanted place words ≡ Some f → At place words f
cloning_at wanted place [] f else h = cc h
cloning_at wanted place (word ∷ words) f else h =
    elim (bytes_eq word (codes "cloning"))
    as (λ (t : Bool). bytes_eq word (codes "cloning") ≡ t → cond t (fault_of_more (place + 1) words) (Some (fault place wanted)) ≡ Some f → At place (word ∷ words) f) [
      | true ↦ λ _ later. behind place word words f (more_at (place + 1) words f later)
      | false ↦ λ other same. told (At place (word ∷ words)) (fault place wanted) f same (here place word words wanted (else other))
    ] refl h

clones_only : (words : List (List ℕ)) → ClonesElse Cloning words
clones_only [] = tt
clones_only (word ∷ words) = λ other. other

address_options_at : (place : ℕ) (words : List (List ℕ)) (f : LineFault) → fault_of_address_options place words ≡ Some f → At place words f
address_options_at place [] f h = cc h
address_options_at place (word ∷ words) f h =
    elim (bytes_eq word (codes "to"))
    as (λ (t : Bool). bytes_eq word (codes "to") ≡ t → cond t (fault_behind_to (place + 1) words) (fault_of_cloning ToOrCloning place (word ∷ words)) ≡ Some f → At place (word ∷ words) f) [
      | true ↦ λ _ later. behind place word words f (then_at (Address ∷ []) (place + 1) words (fault_of_cloning Cloning (place + 1 + 1) (drop 1 words)) f (cloning_at Cloning (place + 1 + 1) (drop 1 words) f (clones_only (drop 1 words))) later)
      | false ↦ λ not_to later. cloning_at ToOrCloning place (word ∷ words) f (λ other. or_from _ _ not_to other) later
    ] refl h

-- ---- the options of a route

-- each option is followed by those behind it
abbrev Follow : List RouteOption → Type 0
Follow [] = ⊤
Follow (o ∷ options) = (options_from o ≡ o ∷ options) × Follow options

-- a first word that begins none of these options is not as it is wanted
abbrev BeginsElse : Wanted → List RouteOption → List (List ℕ) → Type 0
BeginsElse wanted options [] = ⊤
BeginsElse wanted options (word ∷ words) = begins_option options word ≡ false → is_right wanted word ≡ false

begins_only : (options : List RouteOption) (words : List (List ℕ)) → Follow options → BeginsElse (what_may_come options) options words
begins_only options [] follow = tt
begins_only [] (word ∷ words) follow = λ _. refl
begins_only (o ∷ options) (word ∷ words) follow = λ other. rw follow.0 other

options_at : (wanted : Wanted) (place : ℕ) (options : List RouteOption) (words : List (List ℕ)) (f : LineFault) → Follow options → BeginsElse wanted options words
    → fault_of_options wanted place options words ≡ Some f → At place words f
options_at wanted place options [] f follow else h = cc h
options_at wanted place [] (word ∷ words) f follow else h = told (At place (word ∷ words)) (fault place wanted) f h (here place word words wanted (else refl))
options_at wanted place (o ∷ options) (word ∷ words) f follow else h =
    elim (bytes_eq word (option_text o))
    as (λ (t : Bool). bytes_eq word (option_text o) ≡ t
    → cond t (first_of (fault_of_option o (place + 1) words) (fault_of_options (what_may_come options) (place + 2) options (drop 1 words))) (fault_of_options wanted place options (word ∷ words)) ≡ Some f
    → At place (word ∷ words) f) [
      | true ↦ λ _ later. behind place word words f (then_at (option_kind o ∷ []) (place + 1) words (fault_of_options (what_may_come options) (place + 2) options (drop 1 words)) f
          (λ h. moved (place + 2) (place + 1 + 1) (drop 1 words) f (omega arith) (options_at (what_may_come options) (place + 2) options (drop 1 words) f follow.1 (begins_only options (drop 1 words) follow.1) h)) later)
      | false ↦ λ other later. options_at wanted place options (word ∷ words) f follow.1 (λ none. else (or_from _ _ other none)) later
    ] refl h

-- ---- lines

all_follow : Follow all_options
all_follow = (refl, (refl, (refl, (refl, (refl, (refl, (refl, (refl, (refl, (refl, (refl, (refl, (refl, (refl, (refl, tt)))))))))))))))

behind_at : (verb : VerbWord) (place : ℕ) (words : List (List ℕ)) (f : LineFault) → fault_behind verb place words ≡ Some f → At place words f
behind_at verb.Addr place words f h = address_options_at place words f h
behind_at verb.Route place words f h = options_at (Options Via) place all_options words f all_follow (begins_only all_options words all_follow) h
behind_at verb place words f h = more_at place words f h

words_at : (words : List (List ℕ)) (f : LineFault) → fault_of_words words ≡ Some f → At 0 words f
words_at [] f h = told (At 0 []) (fault 0 Verb) f h (missing 0 Verb)
words_at (word ∷ words) f h =
    elim (verb_of word) as (λ o. verb_of word ≡ o → fault_by_verb o words ≡ Some f → At 0 (word ∷ words) f) [
      | None ↦ λ none same. told (At 0 (word ∷ words)) (fault 0 Verb) f same (here 0 word words Verb (ap is_some none))
      | Some v ↦ λ _ later. behind 0 word words f (then_at (words_of v) 1 words (fault_behind v (1 + length (words_of v)) (drop (length (words_of v)) words)) f (behind_at v (1 + length (words_of v)) (drop (length (words_of v)) words) f) later)
    ] refl h

-- of a line that is too long no word is right
too_long : (words : List (List ℕ)) → At 0 words (fault 0 ShorterLine)
too_long [] = missing 0 ShorterLine
too_long (word ∷ words) = here 0 word words ShorterLine refl

pub line_at : (line : List ℕ) (f : LineFault) → fault_in line ≡ Some f → At 0 (parted_by 32 line) f
line_at line f h =
    elim (nat_lt most_line_bytes (length line)) as (λ (t : Bool). cond t (Some (fault 0 ShorterLine)) (fault_of_words (parted_by 32 line)) ≡ Some f → At 0 (parted_by 32 line) f) [
      | true ↦ λ same. told (At 0 (parted_by 32 line)) (fault 0 ShorterLine) f same (too_long (parted_by 32 line))
      | false ↦ λ later. words_at (parted_by 32 line) f later
    ] h

pub at_a_word : (line : List ℕ) (f : LineFault) → fault_in line ≡ Some f → f.place ≤ length (parted_by 32 line)
at_a_word line f h = let at = line_at line f h in omega (arith, at.place, at.most)

pub word_is_wrong : (line : List ℕ) (f : LineFault) → fault_in line ≡ Some f → IfSome (word_of (parted_by 32 line) f.place) (λ word. is_right f.wanted word ≡ false)
word_is_wrong line f h =
    let at = line_at line f h in
    let same : f.place ≡ at.passed = omega (arith, at.place) in
    subst (λ k. IfSome (word_of (parted_by 32 line) k) (λ word. is_right f.wanted word ≡ false)) (sym same) at.wrong
