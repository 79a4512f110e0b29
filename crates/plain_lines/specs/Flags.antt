-- A route's flags by their names, which are those that the text of a message has for them.
use Rattle.std.specs.Prelude.{ℕ, ◌==◌, bit_or, if◌then◌else◌, List, [], ◌∷◌, bytes_eq, Option, Some, None}
use Rattle.std.specs.Int.{w16, to_be_bytes}
use Rattle.event_file.specs.Words.{◌>>=◌, parted_by}
use Rattle.hex.specs.Hex.{encode_lower}
use Rattle.message_text.specs.Names.{Named, flag_names}

-- the flag of a name in a table
abbrev pub number_among : List Named → List ℕ → Option ℕ
number_among [] word = None
number_among (x ∷ xs) word = if bytes_eq word x.name then Some x.number else number_among xs word

-- the flags so far and those of these names, or None where a word is none
abbrev pub flags_with : ℕ → List (List ℕ) → Option ℕ
flags_with flags [] = Some flags
flags_with flags (word ∷ words) = do
  flag ← number_among flag_names word
  flags_with (bit_or flags flag) words

-- the flags of names with commas between them
abbrev pub flags_of : List ℕ → Option ℕ
flags_of word = flags_with 0 (parted_by 44 word)

-- digits without the zeros before them, but for the last digit
abbrev pub significant : List ℕ → List ℕ
significant [] = []
significant (digit ∷ []) = digit ∷ []
significant (digit ∷ next ∷ digits) =
    if digit == 48 then significant (next ∷ digits) else digit ∷ next ∷ digits

-- the word of flags in hexadecimal
abbrev pub flags_word : ℕ → List ℕ
flags_word flags = significant (encode_lower (to_be_bytes w16 flags))
