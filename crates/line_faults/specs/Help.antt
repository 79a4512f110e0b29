-- What people are told who ask for help on a verb.
use Rattle.std.specs.Prelude.{ℕ, ◌+◌, List, [], ◌∷◌, ◌++◌, codes, decimal}
use Rattle.line_faults.specs.Options.{all_options, option_kind, option_text}
use Rattle.line_faults.specs.Texts.{kind_text, usage_text, wanted_text}
use Rattle.line_faults.specs.Verbs.{words_of}
use Rattle.line_faults.specs.declared.kinds.WordKind.{WordKind}
use Rattle.line_faults.specs.declared.options.RouteOption.{RouteOption}
use Rattle.line_faults.specs.declared.verbs.Verb.{Verb}
use Rattle.line_faults.specs.declared.verbs.Verb.TheVariants.{Addr, Route}
use Rattle.line_faults.specs.declared.wanted.Wanted.TheVariants.{ToOrCloning}

-- the word that has to stand at this place, where the verb is word 1
abbrev pub word_line : ℕ → WordKind → List ℕ
word_line place kind = codes "  word " ++ decimal place ++ codes ": " ++ kind_text kind ++ codes "\n"

-- the words that have to stand from this place on
abbrev pub word_lines : ℕ → List WordKind → List ℕ
word_lines place [] = []
word_lines place (kind ∷ kinds) = word_line place kind ++ word_lines (place + 1) kinds

-- an option, and what the word behind it is
abbrev pub option_line : RouteOption → List ℕ
option_line o = codes "  " ++ option_text o ++ codes " and " ++ kind_text (option_kind o) ++ codes "\n"

abbrev pub option_lines : List RouteOption → List ℕ
option_lines [] = []
option_lines (o ∷ options) = option_line o ++ option_lines options

unfoldable pub all_option_lines : List ℕ
all_option_lines = option_lines all_options

abbrev pub options_help : List ℕ
options_help = codes "  then options, in this order:\n" ++ all_option_lines

-- what may stand behind the words that have to
abbrev pub behind_lines : Verb → List ℕ
behind_lines Addr = codes "  then " ++ wanted_text ToOrCloning ++ codes "\n"
behind_lines Route = options_help
behind_lines verb = []

-- how a line with this verb is written, and what its words are
abbrev pub help_on : Verb → List ℕ
help_on verb = usage_text verb ++ codes "\n" ++ word_lines 2 (words_of verb) ++ behind_lines verb
