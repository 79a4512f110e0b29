-- Laws of plain lines.
use Rattle.std.specs.Prelude.{◌≡◌, ℕ, true, List, length, Some, is_some}
use Rattle.event_file.specs.Grammar.{command_of}
use Rattle.event_file.specs.Words.{hex_number_of, parted_by}
use Rattle.plain_lines.specs.Flags.{flags_of}
use Rattle.plain_lines.specs.PlainLines.{plain_flags, plain_of}

-- a line that says a command stays as it is
abbrev pub CommandsStay : Type 0
CommandsStay = (line : List ℕ) → is_some (command_of line) ≡ true → plain_of line ≡ line

-- and so does a plain line
abbrev pub PlainLinesStay : Type 0
PlainLinesStay = (line : List ℕ) → plain_of (plain_of line) ≡ plain_of line

-- a plain line has as many words as its line
abbrev pub AsManyWords : Type 0
AsManyWords = (line : List ℕ) → length (parted_by 32 (plain_of line)) ≡ length (parted_by 32 line)

-- the flags that are written for names are read as those that the names say
abbrev pub FlagsAreRead : Type 0
FlagsAreRead = (word : List ℕ) (flags : ℕ) → flags_of word ≡ Some flags → hex_number_of (plain_flags word) ≡ Some flags
