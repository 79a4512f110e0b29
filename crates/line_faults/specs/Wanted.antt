-- What is wanted at a place of a line, and which words are so.
use Rattle.std.specs.Prelude.{ℕ, Bool, false, ◌||◌, is_some, List, codes, bytes_eq}
use Rattle.line_faults.specs.Kinds.{is_of}
use Rattle.line_faults.specs.Options.{begins_option, options_from}
use Rattle.line_faults.specs.Verbs.{verb_of}
use Rattle.line_faults.specs.declared.wanted.Wanted.{Wanted}
use Rattle.line_faults.specs.declared.wanted.Wanted.TheVariants.{Verb, Word, ToOrCloning, Cloning, Options, NothingMore, ShorterLine}

-- the word is as it is wanted
abbrev pub is_right : Wanted → List ℕ → Bool
is_right Verb word = is_some (verb_of word)
is_right (Word kind) word = is_of kind word
is_right ToOrCloning word = bytes_eq word (codes "to") || bytes_eq word (codes "cloning")
is_right Cloning word = bytes_eq word (codes "cloning")
is_right (Options o) word = begins_option (options_from o) word
is_right NothingMore word = false
is_right ShorterLine word = false
