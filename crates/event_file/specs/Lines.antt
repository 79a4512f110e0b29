-- The lines of a script. A line ends with a newline byte, 10, and is the bytes before it.
use Rattle.std.specs.Prelude.{◌≡◌, ◌≢◌, ◌⊎◌, ℕ, Bool, true, false, ◌==◌, ◌||◌, not, nat_lt, cond, List, [], ◌∷◌, ◌++◌, length, map, filter, Option, Some, None}
use Rattle.std.specs.List.{All}

-- a byte ends a line
abbrev pub is_newline : ℕ → Bool
is_newline byte = byte == 10

-- some byte ends a line
abbrev pub has_newline : List ℕ → Bool
has_newline [] = false
has_newline (b ∷ bs) = is_newline b || has_newline bs

-- the bytes before the first newline; all of them where there is none
abbrev pub first_line : List ℕ → List ℕ
first_line [] = []
first_line (b ∷ bs) = cond (is_newline b) [] (b ∷ first_line bs)

-- the bytes up to and with the last newline: the lines that are whole
abbrev pub ended_lines : List ℕ → List ℕ
ended_lines [] = []
ended_lines (b ∷ bs) = cond (has_newline (b ∷ bs)) (b ∷ ended_lines bs) []

-- the bytes after the last newline: what has come of the next line
abbrev pub begun_line : List ℕ → List ℕ
begun_line [] = []
begun_line (b ∷ bs) = cond (has_newline (b ∷ bs)) (begun_line bs) (b ∷ bs)

-- a byte before these lines goes onto the first of them
abbrev pub onto_first : ℕ → List (List ℕ) → List (List ℕ)
onto_first b [] = (b ∷ []) ∷ []
onto_first b (line ∷ lines) = (b ∷ line) ∷ lines

-- the lines of these bytes; a last one without a newline counts where it has a byte
abbrev pub lines_of : List ℕ → List (List ℕ)
lines_of [] = []
lines_of (b ∷ bs) = cond (is_newline b) ([] ∷ lines_of bs) (onto_first b (lines_of bs))

-- the most bytes that are looked at in a line
abbrev pub most_line_bytes : ℕ
most_line_bytes = 16500

-- a line as it is looked at: nothing of it where it has more bytes
abbrev pub kept : List ℕ → Option (List ℕ)
kept line = cond (nat_lt most_line_bytes (length line)) None (Some line)

-- a kept line with these bytes behind it
abbrev pub extended : Option (List ℕ) → List ℕ → Option (List ℕ)
extended None bytes = None
extended (Some line) bytes = kept (line ++ bytes)

-- a line has at least one byte; one that is too long has
abbrev pub is_begun : Option (List ℕ) → Bool
is_begun None = true
is_begun (Some []) = false
is_begun (Some (b ∷ bs)) = true

-- a line that gives no answer: an empty one, or one that is not too long and begins with '#'
abbrev pub is_passed : Option (List ℕ) → Bool
is_passed None = false
is_passed (Some []) = true
is_passed (Some (b ∷ bs)) = b == 35

-- a line that gives an answer
abbrev pub is_answered : Option (List ℕ) → Bool
is_answered line = not (is_passed line)

-- the lines of a script that are answered
abbrev pub answered_lines : List ℕ → List (Option (List ℕ))
answered_lines script = filter is_answered (map kept (lines_of script))

-- what a line buffer holds: the line so far, and whether its newline has come
pub record Line : Type 0 where
  pub text : Option (List ℕ)
  pub ended : Bool

-- no byte of a line
abbrev pub no_line : Line
no_line = record { text = Some []; ended = false }

-- the line after these bytes, up to and with the first newline among them
abbrev pub after_bytes : Line → List ℕ → Line
after_bytes line bytes = record { text = extended line.text (first_line bytes); ended = has_newline bytes }

-- ---- what a script's lines are

-- lines as a script has them, with a newline behind each
abbrev pub with_newlines : List (List ℕ) → List ℕ
with_newlines [] = []
with_newlines (line ∷ lines) = line ++ 10 ∷ with_newlines lines

-- no line has a newline in it
abbrev pub AreLines : List (List ℕ) → Type 0
AreLines lines = All (λ line. has_newline line ≡ false) lines

-- lines with a newline behind each are read as those lines
abbrev pub EndedLinesAreRead : Type 0
EndedLinesAreRead = (lines : List (List ℕ)) → AreLines lines → lines_of (with_newlines lines) ≡ lines

-- and so are they with a last line behind them that has a byte and no newline
abbrev pub LastLineIsRead : Type 0
LastLineIsRead = (lines : List (List ℕ)) (last : List ℕ) → AreLines lines → has_newline last ≡ false → last ≢ []
    → lines_of (with_newlines lines ++ last) ≡ lines ++ last ∷ []

-- each script is its lines again: no line has a newline, and with a newline behind each they are the script, or the
-- script with a newline at its end
abbrev pub ScriptIsItsLines : Type 0
ScriptIsItsLines = (script : List ℕ) → AreLines (lines_of script)
    × ((with_newlines (lines_of script) ≡ script) ⊎ (with_newlines (lines_of script) ≡ script ++ 10 ∷ []))
