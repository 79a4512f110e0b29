-- The plain line of a line.
use Rattle.std.specs.Prelude.{ℕ, if◌then◌else◌, List, [], ◌∷◌, ◌++◌, take, drop, codes, bytes_eq, Option, Some, None}
use Rattle.std.specs.List.{join_with_byte}
use Rattle.event_file.specs.Words.{parted_by}
use Rattle.plain_lines.specs.Flags.{flags_of, flags_word}

-- flags by their names are the number that these say
abbrev pub number_of : List ℕ → Option ℕ → List ℕ
number_of word None = word
number_of word (Some flags) = flags_word flags

abbrev pub plain_flags : List ℕ → List ℕ
plain_flags word = number_of word (flags_of word)

-- all that a dump may have is the most room that can be asked for
abbrev pub plain_room : List ℕ → List ℕ
plain_room word = if bytes_eq word (codes "all") then codes "4294967295" else word

-- options, each a name and the word behind it
abbrev pub plain_options : List (List ℕ) → List (List ℕ)
plain_options (name ∷ word ∷ rest) =
    name ∷ (if bytes_eq name (codes "flags") then plain_flags word else word) ∷ plain_options rest
plain_options words = words

-- `ID SEQ VERB DEST OPTION..`, behind `route`
abbrev pub plain_route : List (List ℕ) → List (List ℕ)
plain_route words = take 4 words ++ plain_options (drop 4 words)

-- `ask` or `N`, behind `dump`
abbrev pub plain_dump : List (List ℕ) → List (List ℕ)
plain_dump [] = []
plain_dump (room ∷ rest) = plain_room room ∷ rest

-- `X ask` or `X N`, behind `flags`
abbrev pub plain_filter : List (List ℕ) → List (List ℕ)
plain_filter [] = []
plain_filter (flags ∷ rest) = plain_flags flags ∷ plain_dump rest

-- what stands behind a verb
abbrev pub plain_behind : List ℕ → List (List ℕ) → List (List ℕ)
plain_behind verb words =
    if bytes_eq verb (codes "route") then plain_route words
    else if bytes_eq verb (codes "dump") then plain_dump words
    else if bytes_eq verb (codes "flags") then plain_filter words
    else words

abbrev pub plain_words : List (List ℕ) → List (List ℕ)
plain_words [] = []
plain_words (verb ∷ words) = verb ∷ plain_behind verb words

-- the plain line: its words are parted by single spaces
abbrev pub plain_of : List ℕ → List ℕ
plain_of line = join_with_byte 32 (plain_words (parted_by 32 line))
