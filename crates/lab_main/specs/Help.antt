-- What people are told who ask for help.
use Rattle.std.specs.Prelude.{ℕ, List, ◌++◌, codes, Option, Some, None}
use Rattle.line_faults.specs.Texts.{all_usages, wanted_text}
use Rattle.line_faults.specs.declared.kinds.WordKind.TheVariants.{Address}
use Rattle.line_faults.specs.declared.wanted.Wanted.{Wanted}
use Rattle.line_faults.specs.declared.wanted.Wanted.TheVariants.{Verb, Word}
use Rattle.lab_main.specs.Questions.{address_asked, word_asked}
use Rattle.lab_main.specs.Texts.{wrong_text}

-- of a line behind `?` that asks nothing
abbrev pub any_question : List ℕ
any_question =
    codes "bad: wanted: one of ?table, ?tree, ?find A, ?why A, ?interfaces, ?sockets, ?help, ?help VERB, ?quit\n"

-- that its second word is wrong
abbrev pub second_wrong : List ℕ → Wanted → List ℕ
second_wrong word wanted =
    codes "bad: word 2" ++ wrong_text word ++ codes "; wanted: " ++ wanted_text wanted ++ codes "\n"

-- where it has a word that is to be an address
abbrev pub address_wrong : Option (List ℕ) → List ℕ
address_wrong (Some word) = second_wrong word (Word Address)
address_wrong None = any_question

-- or else one that is to be a verb
abbrev pub word_wrong : Option (List ℕ) → List ℕ → List ℕ
word_wrong (Some word) line = second_wrong word Verb
word_wrong None line = address_wrong (address_asked line)

abbrev pub no_question : List ℕ → List ℕ
no_question line = word_wrong (word_asked line) line

abbrev pub questions : List ℕ
questions =
    codes "?table       the routes, in the way of netstat -rn\n"
    ++ codes "?tree        the radix tree of the routes\n"
    ++ codes "?find A      how the best route of an address is found\n"
    ++ codes "?why A       which routes an address agrees with\n"
    ++ codes "?interfaces  the interfaces, with their addresses\n"
    ++ codes "?sockets     the open routing sockets\n"
    ++ codes "?help        this\n"
    ++ codes "?help VERB   how a line with this verb is written, word by word\n"
    ++ codes "?quit        the end\n"

-- all lines and questions
abbrev pub help : List ℕ
help = all_usages ++ questions
