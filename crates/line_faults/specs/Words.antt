-- The words of a line.
use Rattle.std.specs.Prelude.{ℕ, zero, suc, Bool, ◌==◌, List, [], ◌∷◌, Option, Some, None}
use Rattle.std.specs.List.{list_any}
use Rattle.event_file.specs.Words.{parted_by}

-- some byte is a space
abbrev pub has_space : List ℕ → Bool
has_space text = list_any (λ b. b == 32) text

-- the words that are left where these bytes are: none where there are no bytes, and an empty one where they are empty
abbrev pub words_left : Option (List ℕ) → List (List ℕ)
words_left None = []
words_left (Some bytes) = parted_by 32 bytes

-- the word at a place, from 0 on
abbrev pub word_of : List (List ℕ) → ℕ → Option (List ℕ)
word_of [] place = None
word_of (word ∷ words) zero = Some word
word_of (word ∷ words) (suc place) = word_of words place

-- a word, where there is one, and those behind it
abbrev pub words_from : Option (List ℕ) → List (List ℕ) → List (List ℕ)
words_from None words = []
words_from (Some word) words = word ∷ words
