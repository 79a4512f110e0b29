-- What stands behind a word of a line: nothing, or a space and more words.
use Rattle.std.specs.Prelude.{◌≡◌, ℕ, List, [], ◌∷◌, ◌++◌}
use Rattle.event_file.specs.Words.{parted_by}

-- the words in it
abbrev pub words_after : List ℕ → List (List ℕ)
words_after [] = []
words_after (space ∷ text) = parted_by 32 text

-- each word with a space before it
abbrev pub spaced : List (List ℕ) → List ℕ
spaced [] = []
spaced (word ∷ words) = 32 ∷ (word ++ spaced words)

-- a text is its words, each with a space before it
pub record IsBehind (text : List ℕ) : Type 0 where
  pub spaces : text ≡ spaced (words_after text)
