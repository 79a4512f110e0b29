-- A text with each message in words. A line that tells a message is `msg `, and behind it the message's bytes in
-- lower-case hexadecimal, at least one; every other line stays as it is.
use Rattle.std.specs.Prelude.{ℕ, nat_le, bytes_eq, codes, ◌&&◌, ◌||◌, Bool, if◌then◌else◌, List, [], ◌∷◌, ◌++◌, flat_map, Option, Some, None}
use Rattle.std.specs.List.{list_all}
use Rattle.std.specs.Result.{result_ok}
use Rattle.hex.specs.Hex.{decode_of}
use Rattle.event_file.specs.Lines.{begun_line, ended_lines, lines_of}
use Rattle.message_text.specs.Texts.{text_of}

-- `0` to `9` or `a` to `f`
abbrev pub is_lower_digit : ℕ → Bool
is_lower_digit byte = (nat_le 48 byte && nat_le byte 57) || (nat_le 97 byte && nat_le byte 102)

-- what stands behind `msg ` on a line, where that is lower-case digits, and at least one
abbrev pub digits_of : List ℕ → Option (List ℕ)
digits_of (m ∷ s ∷ g ∷ space ∷ d ∷ ds) =
    if bytes_eq (m ∷ s ∷ g ∷ space ∷ []) (codes "msg ") && list_all is_lower_digit (d ∷ ds) then Some (d ∷ ds) else None
digits_of _ = None

-- the bytes that digits spell, where their number is even
abbrev pub spelled : Option (List ℕ) → Option (List ℕ)
spelled None = None
spelled (Some digits) = result_ok (decode_of digits)

-- the message that a line tells, where it tells one
abbrev pub message_in : List ℕ → Option (List ℕ)
message_in line = spelled (digits_of line)

-- a message in words; a line that tells none as it is, with what ends it
abbrev pub told : Option (List ℕ) → List ℕ → List ℕ
told None line = line
told (Some message) line = text_of message

-- a line with what ends it, a newline or nothing, as it is shown
abbrev pub shown_line : List ℕ → List ℕ → List ℕ
shown_line line end = told (message_in line) (line ++ end)

-- the lines of a text that are whole
abbrev pub whole_lines : List ℕ → List (List ℕ)
whole_lines text = lines_of (ended_lines text)

-- lines as they are shown, one after another
abbrev pub shown_lines : List (List ℕ) → List ℕ
shown_lines lines = flat_map (λ line. shown_line line (10 ∷ [])) lines

abbrev pub shown_ended : List ℕ → List ℕ
shown_ended text = shown_lines (whole_lines text)

-- the text with each message in words, also of a last line without a newline
abbrev pub shown_text : List ℕ → List ℕ
shown_text text = shown_ended text ++ shown_line (begun_line text) []
