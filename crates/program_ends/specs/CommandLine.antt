-- The words of the command line, by what the crate that reads them makes of words.
use Rattle.std.specs.Prelude.{List, Option, ℕ, codes, true}
use Rattle.clap.specs.Words.{App, Kinds, Text, fault_of, first_of, matches_of, new_app, new_rule, with_rule}

-- `PROGRAM [FILE]`: one operand that may be missing, and no option, not even for help
abbrev pub program : List ℕ → App
program name = let plain = new_app name in
    with_rule (record plain { top = record plain.top { disable_help_flag = true } }) (new_rule (codes "FILE"))

-- FILE, where these words of the program with this name name one
abbrev pub file_of : List ℕ → List Text → Option Text
file_of name words = first_of (codes "FILE") (matches_of (program name) words)

-- what is wrong with these words
abbrev pub faults_of : List ℕ → List Text → Kinds
faults_of name words = fault_of (program name) words
