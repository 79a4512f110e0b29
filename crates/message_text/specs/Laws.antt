-- What holds of every text.
use Rattle.std.specs.Prelude.{◌≡◌, ℕ, ◌==◌, ◌&&◌, ◌||◌, nat_le, Bool, true, List, ◌++◌, codes}
use Rattle.std.specs.List.{list_all}
use Rattle.hex.specs.Hex.{IsBytes}
use Rattle.message_text.specs.Texts.{text_of}

-- bytes with one text are the same bytes: a text tells each field of a header, also one that isn't printed because it
-- is 0, each byte of an address with its padding, and the bytes that are no message
abbrev pub TextsTellTheirBytes : Type 0
TextsTellTheirBytes = (m n : List ℕ) → IsBytes m → IsBytes n → text_of m ≡ text_of n → m ≡ n

-- an ASCII character that is printed, or a newline
abbrev pub is_line_byte : ℕ → Bool
is_line_byte b = (nat_le 32 b && nat_le b 126) || b == 10

-- lines of such bytes, each ended by a newline
pub record AreLines (text : List ℕ) : Type 0 where
  pub bytes : list_all is_line_byte text ≡ true
  pub ended : (lines : List ℕ) × (text ≡ lines ++ codes "\n")

abbrev pub TextsAreLines : Type 0
TextsAreLines = (m : List ℕ) → IsBytes m → AreLines (text_of m)
