-- Which word of a line is wrong, and what is wanted there.
use Rattle.std.specs.Prelude.{ℕ, ◌+◌, nat_lt, if◌then◌else◌, List, [], ◌∷◌, length, drop, codes, bytes_eq, Option, Some, None}
use Rattle.event_file.specs.Lines.{most_line_bytes}
use Rattle.event_file.specs.Words.{parted_by}
use Rattle.line_faults.specs.Verbs.{verb_of, words_of}
use Rattle.line_faults.specs.Kinds.{is_of}
use Rattle.line_faults.specs.Options.{all_options, option_text, option_kind}
use Rattle.line_faults.specs.declared.faults.LineFault.{LineFault}
use Rattle.line_faults.specs.declared.kinds.WordKind.{WordKind}
use Rattle.line_faults.specs.declared.kinds.WordKind.TheVariants.{Address}
use Rattle.line_faults.specs.declared.verbs.Verb.{Verb as VerbWord}
use Rattle.line_faults.specs.declared.verbs.Verb.TheVariants.{Addr, Route}
use Rattle.line_faults.specs.declared.options.RouteOption.{RouteOption}
use Rattle.line_faults.specs.declared.options.RouteOption.TheVariants.{Via}
use Rattle.line_faults.specs.declared.wanted.Wanted.{Wanted}
use Rattle.line_faults.specs.declared.wanted.Wanted.TheVariants.{Verb, Word, ToOrCloning, Cloning, Options, NothingMore, ShorterLine}

abbrev pub fault : ℕ → Wanted → LineFault
fault place wanted = record { place = place; wanted = wanted }

-- the first of two faults
abbrev pub first_of : Option LineFault → Option LineFault → Option LineFault
first_of None second = second
first_of (Some first) second = Some first

-- the first of the words from this place on that isn't of its kind, or is missing
abbrev pub fault_among : ℕ → List WordKind → List (List ℕ) → Option LineFault
fault_among place [] words = None
fault_among place (kind ∷ kinds) [] = Some (fault place (Word kind))
fault_among place (kind ∷ kinds) (word ∷ words) =
    if is_of kind word then fault_among (place + 1) kinds words else Some (fault place (Word kind))

-- no word may stand from this place on
abbrev pub fault_of_more : ℕ → List (List ℕ) → Option LineFault
fault_of_more place [] = None
fault_of_more place (word ∷ words) = Some (fault place NothingMore)

-- ---- `to A` and `cloning`, each where it is written

abbrev pub fault_of_cloning : Wanted → ℕ → List (List ℕ) → Option LineFault
fault_of_cloning wanted place [] = None
fault_of_cloning wanted place (word ∷ words) =
    if bytes_eq word (codes "cloning") then fault_of_more (place + 1) words else Some (fault place wanted)

-- behind `to`
abbrev pub fault_behind_to : ℕ → List (List ℕ) → Option LineFault
fault_behind_to place words =
    first_of (fault_among place (Address ∷ []) words) (fault_of_cloning Cloning (place + 1) (drop 1 words))

abbrev pub fault_of_address_options : ℕ → List (List ℕ) → Option LineFault
fault_of_address_options place [] = None
fault_of_address_options place (word ∷ words) =
    if bytes_eq word (codes "to") then fault_behind_to (place + 1) words
    else fault_of_cloning ToOrCloning place (word ∷ words)

-- ---- the options of a route, each a word and one behind it

-- what may come where these options are left
abbrev pub what_may_come : List RouteOption → Wanted
what_may_come [] = NothingMore
what_may_come (o ∷ options) = Options o

-- the word behind an option's isn't of its kind, or is missing
abbrev pub fault_of_option : RouteOption → ℕ → List (List ℕ) → Option LineFault
fault_of_option o place words = fault_among place (option_kind o ∷ []) words

-- of the options that are left, where of those this may come
abbrev pub fault_of_options : Wanted → ℕ → List RouteOption → List (List ℕ) → Option LineFault
fault_of_options wanted place options [] = None
fault_of_options wanted place [] (word ∷ words) = Some (fault place wanted)
fault_of_options wanted place (o ∷ options) (word ∷ words) =
    if bytes_eq word (option_text o)
    then first_of (fault_of_option o (place + 1) words)
    (fault_of_options (what_may_come options) (place + 2) options (drop 1 words))
    else fault_of_options wanted place options (word ∷ words)

-- ---- lines

-- of the words from this place on, which stand behind those that the verb has to have
abbrev pub fault_behind : VerbWord → ℕ → List (List ℕ) → Option LineFault
fault_behind Addr place words = fault_of_address_options place words
fault_behind Route place words = fault_of_options (Options Via) place all_options words
fault_behind verb place words = fault_of_more place words

-- of the words behind the verb
abbrev pub fault_of_verb : VerbWord → List (List ℕ) → Option LineFault
fault_of_verb verb words =
    first_of (fault_among 1 (words_of verb) words)
    (fault_behind verb (1 + length (words_of verb)) (drop (length (words_of verb)) words))

abbrev pub fault_by_verb : Option VerbWord → List (List ℕ) → Option LineFault
fault_by_verb None words = Some (fault 0 Verb)
fault_by_verb (Some verb) words = fault_of_verb verb words

abbrev pub fault_of_words : List (List ℕ) → Option LineFault
fault_of_words [] = Some (fault 0 Verb)
fault_of_words (word ∷ words) = fault_by_verb (verb_of word) words

-- the fault of a line, whose words are parted by single spaces
abbrev pub fault_in : List ℕ → Option LineFault
fault_in line =
    if nat_lt most_line_bytes (length line) then Some (fault 0 ShorterLine) else fault_of_words (parted_by 32 line)
