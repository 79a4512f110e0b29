-- The message of a piece. A line tells one where it is `msg HEX` or `write ID HEX`, HEX an even number of hexadecimal
-- digits in either case, at least two; every piece of a capture is one.
use Rattle.std.specs.Prelude.{ℕ, ◌+◌, nat_le, ◌==◌, ◌&&◌, Bool, if◌then◌else◌, List, [], ◌∷◌, length, take, drop, bytes_eq, codes, position, Option, Some, None}
use Rattle.std.specs.List.{list_all}
use Rattle.std.specs.Result.{result_ok}
use Rattle.hex.specs.Hex.{decode_of}
use Rattle.event_file.specs.Lines.{first_line}
use Rattle.event_file.specs.Words.{is_name_byte}
use Rattle.conv_main.specs.declared.way.Form.{Form}
use Rattle.conv_main.specs.declared.way.Form.TheVariants.{Lines, Raw}

-- a message in a text: what stands before it, its bytes, and what stands behind it
pub record Message : Type 0 where
  pub before : List ℕ
  pub bytes : List ℕ
  pub behind : List ℕ

-- 1 to 8 letters and digits, as the id of a socket
abbrev pub is_id : List ℕ → Bool
is_id word = nat_le 1 (length word) && nat_le (length word) 8 && list_all is_name_byte word

-- how many bytes of a line stand before the digits, where it begins with `write ` and an id and a space behind it come
-- next
abbrev pub size_before_written : Option ℕ → List ℕ → ℕ
size_before_written None rest = 0
size_before_written (Some space) rest = if is_id (take space rest) then space + 7 else 0

-- how many bytes of a line stand before the digits; 0 where it tells no message
abbrev pub size_before : List ℕ → ℕ
size_before line =
    if bytes_eq (take 4 line) (codes "msg ") then 4
    else if bytes_eq (take 6 line) (codes "write ") then size_before_written (position (λ b. b == 32) (drop 6 line)) (drop 6 line)
    else 0

-- the bytes that digits spell, where there is one
abbrev pub spelled : List ℕ → Option (List ℕ)
spelled [] = None
spelled (d ∷ ds) = result_ok (decode_of (d ∷ ds))

-- a message that stands so on a line, where it has bytes
abbrev pub told_as : List ℕ → List ℕ → Option (List ℕ) → Option Message
told_as before behind None = None
told_as before behind (Some bytes) = Some (record { before = before; bytes = bytes; behind = behind })

-- the bytes of the message that a line tells, of which so many bytes stand before the digits
abbrev pub bytes_on : ℕ → List ℕ → Option (List ℕ)
bytes_on size line = if size == 0 then None else spelled (drop size line)

-- the message that a line tells, and behind it what ends the line
abbrev pub message_on : List ℕ → List ℕ → Option Message
message_on line end = told_as (take (size_before line) line) end (bytes_on (size_before line) line)

-- the message of a piece; that of a capture is put on a line of its own
abbrev pub message_in : Form → List ℕ → Option Message
message_in Lines piece =
    message_on (first_line piece) (drop (length (first_line piece)) piece)
message_in Raw piece = Some (record { before = codes "msg "; bytes = piece; behind = 10 ∷ [] })
