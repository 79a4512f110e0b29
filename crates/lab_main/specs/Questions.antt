-- The questions that lines ask.
use Rattle.std.specs.Prelude.{ℕ, Bool, true, false, ◌==◌, List, [], ◌∷◌, take, drop, bytes_eq, codes, if◌then◌else◌, Option, Some, None, option_map}
use Rattle.event_file.specs.Words.{inet_of}
use Rattle.line_faults.specs.Verbs.{verb_of}
use Rattle.lab_main.specs.declared.questions.Question.{Question}
use Rattle.lab_main.specs.declared.questions.Question.TheVariants.{Table, Tree, Find, Why, Interfaces, Sockets, Help, HelpOn, Quit}

-- a question begins with `?`
abbrev pub is_question : List ℕ → Bool
is_question [] = false
is_question (b ∷ bs) = b == 63

abbrev pub about_an_address : List ℕ → Option Question
about_an_address line =
    if bytes_eq (take 6 line) (codes "?find ") then option_map Find (inet_of (drop 6 line))
    else if bytes_eq (take 5 line) (codes "?why ") then option_map Why (inet_of (drop 5 line))
    else None

-- the word that is to be an address
abbrev pub address_asked : List ℕ → Option (List ℕ)
address_asked line =
    if bytes_eq (take 6 line) (codes "?find ") then Some (drop 6 line)
    else if bytes_eq (take 5 line) (codes "?why ") then Some (drop 5 line)
    else None

-- the word on which help is asked
abbrev pub word_asked : List ℕ → Option (List ℕ)
word_asked line = if bytes_eq (take 6 line) (codes "?help ") then Some (drop 6 line) else None

abbrev pub about_word : Option (List ℕ) → List ℕ → Option Question
about_word (Some word) line = option_map HelpOn (verb_of word)
about_word None line = about_an_address line

-- a question about a verb or an address
abbrev pub about_something : List ℕ → Option Question
about_something line = about_word (word_asked line) line

abbrev pub question_of : List ℕ → Option Question
question_of line =
    if bytes_eq line (codes "?table") then Some Table
    else if bytes_eq line (codes "?tree") then Some Tree
    else if bytes_eq line (codes "?interfaces") then Some Interfaces
    else if bytes_eq line (codes "?sockets") then Some Sockets
    else if bytes_eq line (codes "?help") then Some Help
    else if bytes_eq line (codes "?quit") then Some Quit
    else about_something line

-- no line is told behind the one that asks this
abbrev pub ends_all : Option Question → Bool
ends_all (Some Quit) = true
ends_all q = false
