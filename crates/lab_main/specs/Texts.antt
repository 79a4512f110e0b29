-- The texts that stand about what is told.
use Rattle.std.specs.Prelude.{ℕ, List, [], ◌∷◌, ◌++◌, codes, decimal, flat_map, length, Bool, ◌||◌, ◌==◌, nat_lt, if◌then◌else◌}
use Rattle.hex.specs.Hex.{encode_lower}
use Rattle.event_file.specs.Lines.{lines_of}

-- ---- what came from outside, shown to a terminal without the control characters of ASCII; bytes from 128 on, of which
-- some terminals obey a few too, stay as they are

abbrev pub is_control : ℕ → Bool
is_control b = nat_lt b 32 || b == 127

-- `\x1b` in the place of such a byte
abbrev pub visible_byte : ℕ → List ℕ
visible_byte b = if is_control b then codes "\\x" ++ encode_lower (b ∷ []) else b ∷ []

abbrev pub visible : List ℕ → List ℕ
visible bytes = flat_map visible_byte bytes

-- ---- texts about it

-- a line behind its number
abbrev pub echoed : ℕ → List ℕ → List ℕ
echoed number line = decimal number ++ codes ": " ++ visible line ++ codes "\n"

-- the plain line of another one
abbrev pub told_plainly : List ℕ → List ℕ
told_plainly plain = codes "= " ++ visible plain ++ codes "\n"

-- that a word is wrong
abbrev pub quoted_wrong : List ℕ → List ℕ
quoted_wrong word = codes " (`" ++ visible word ++ codes "`) is wrong"

abbrev pub wrong_text : List ℕ → List ℕ
wrong_text word =
    if length word == 0 then codes " is empty, since words are parted by single spaces" else quoted_wrong word

-- each line of a text behind four spaces
unfoldable pub indented : List ℕ → List ℕ
indented text = flat_map (λ line. codes "    " ++ line ++ codes "\n") (lines_of text)

-- numbers, each behind a comma
abbrev pub numbered : List ℕ → List ℕ
numbered numbers = flat_map (λ n. codes ", " ++ decimal n) numbers

abbrev pub lines_word : List ℕ → List ℕ
lines_word [] = codes " bad line: "
lines_word (n ∷ ns) = codes " bad lines: "

-- what is told behind all lines: how many were bad, and which
abbrev pub ending : List ℕ → List ℕ
ending [] = []
ending (n ∷ ns) = decimal (length (n ∷ ns)) ++ lines_word ns ++ decimal n ++ numbered ns ++ codes "\n"
