-- What a run with an outcome did to its reader, which had `before` and has `after` left, and to its writer, which held
-- `old` and holds `new`.
use Rattle.std.specs.Prelude.{◌≡◌, ◌≢◌, ◌≤◌, ◌+◌, ◌⊎◌, Bool, true, false, List, [], ◌∷◌, ◌++◌, ℕ, Option, length}
use Rattle.std.specs.Io.KnownBytes.{Appends, Consumes, IsAtEnd, Keeps}
use Rattle.event_file.specs.Lines.{AreLines, has_newline, with_newlines}
use Rattle.program_ends.specs.declared.outcome.Outcome.{Outcome}
use Rattle.program_ends.specs.declared.outcome.Outcome.TheVariants.{Done, BadLine, ReadFault, WriteFault, NoMemory}
use Rattle.line_reader.specs.Given.{Spent}
use Rattle.line_reader.specs.declared.reader.TheConstants.{READ_ROOM}
use Rattle.lab_main.specs.Telling.{State, Told, fresh, if_any}
use Rattle.lab_main.specs.Texts.{ending}
use Rattle.lab_main.specs.declared.shows.Shows.{Shows}

-- these bytes were read: whole lines, each with a newline behind it, and then this
pub record Cut (before after : Option (List ℕ)) (lines : List (List ℕ)) (behind : List ℕ) : Type 0 where
  pub read : List ℕ
  pub consumes : Consumes before after read
  pub are : AreLines lines
  pub parts : read ≡ with_newlines lines ++ behind

-- so were these, and the last line at the end of the text is one without a newline
pub record CutLast (before after : Option (List ℕ)) (lines : List (List ℕ)) : Type 0 where
  pub whole : List (List ℕ)
  pub last : List ℕ
  pub cut : Cut before after whole last
  pub line : has_newline last ≡ false
  pub some : last ≢ []
  pub lines_are : lines ≡ whole ++ last ∷ []
  pub at_end : IsAtEnd after

-- these are the first lines of what was read, with this behind them
abbrev pub AreFirst : Option (List ℕ) → Option (List ℕ) → List (List ℕ) → List ℕ → Type 0
AreFirst before after lines behind = Cut before after lines behind ⊎ (CutLast before after lines × (behind ≡ []))

-- and they are all; or those up to the one by which the text was quit, behind which no more was read than at once with
-- it
abbrev pub AreAll : Option (List ℕ) → Option (List ℕ) → List (List ℕ) → State → Type 0
AreAll before after lines last = (behind : List ℕ) × AreFirst before after lines behind
    × (((last.over ≡ true) × (length behind ≤ READ_ROOM)) ⊎ ((behind ≡ []) × IsAtEnd after))

-- all lines were told up to this state, and then what is told behind them; some line was bad or none was
pub record ToldAll (o : Shows) (before after old new : Option (List ℕ)) (last : State) (bad : Bool) : Type 0 where
  pub lines : List (List ℕ)
  pub text : List ℕ
  pub all : AreAll before after lines last
  pub told : Told o fresh lines text last
  pub bad_is : if_any last.bad ≡ bad
  pub appends : Appends old new (text ++ ending last.bad)

-- exactly the lines that were read to their ends were told, or as many as there are turns, up to this state
pub record ToldEnded (o : Shows) (before after old new : Option (List ℕ)) (last : State) : Type 0 where
  pub lines : List (List ℕ)
  pub begun : List ℕ
  pub text : List ℕ
  pub cut : Cut before after lines begun
  pub whole : (has_newline begun ≡ false) ⊎ Spent before after
  pub told : Told o fresh lines text last
  pub appends : Appends old new text

-- this is no more than one line, as far as it has come, and behind it a newline and what was read at once with that
pub record IsOneLine (behind : List ℕ) : Type 0 where
  pub line : List ℕ
  pub rest : List ℕ
  pub parts : behind ≡ line ++ rest
  pub whole : has_newline line ≡ false
  pub few : length rest ≤ READ_ROOM + 1

-- what was written stands before an unwritten rest of what may be told of lines that were read, and behind all of them;
-- and one line at most was read that isn't one of these, but for what was read at once with its end
pub record ToldFront (o : Shows) (before after old new : Option (List ℕ)) : Type 0 where
  pub lines : List (List ℕ)
  pub behind : List ℕ
  pub text : List ℕ
  pub last : State
  pub written : List ℕ
  pub unwritten : List ℕ
  pub first : AreFirst before after lines behind
  pub untold : IsOneLine behind
  pub told : Told o fresh lines text last
  pub whole : text ++ ending last.bad ≡ written ++ unwritten
  pub appends : Appends old new written

-- exactly these lines were told, to their ends, of those that were read, and one line at most was read that wasn't
-- told, but for what was read at once with its end
pub record ToldLines (o : Shows) (before after old new : Option (List ℕ)) : Type 0 where
  pub lines : List (List ℕ)
  pub behind : List ℕ
  pub text : List ℕ
  pub last : State
  pub first : AreFirst before after lines behind
  pub untold : IsOneLine behind
  pub told : Told o fresh lines text last
  pub appends : Appends old new text

-- what a run did that ended with an outcome: how much it read, told and wrote. Where all lines were told, or a read
-- failed, its lab was left in this state, behind the last line that was told; otherwise nothing is said of the lab
abbrev pub Ends : Shows → Outcome → Option (List ℕ) → Option (List ℕ) → Option (List ℕ) → Option (List ℕ) → State
    → Type 0
Ends o Done before after old new last = ToldAll o before after old new last false
Ends o BadLine before after old new last = ToldAll o before after old new last true
Ends o ReadFault before after old new last = ToldEnded o before after old new last
Ends o WriteFault before after old new last = ToldFront o before after old new
Ends o NoMemory before after old new last = ToldLines o before after old new

-- ---- behind the last line

-- it wrote a front of what is told behind all lines
pub record EndingFront (old new : Option (List ℕ)) (bad : List ℕ) : Type 0 where
  pub written : List ℕ
  pub unwritten : List ℕ
  pub whole : ending bad ≡ written ++ unwritten
  pub appends : Appends old new written

-- how a run ended whose lines were told
abbrev pub Finishes : Outcome → Option (List ℕ) → Option (List ℕ) → List ℕ → Type 0
Finishes Done old new bad = Appends old new (ending bad) × (if_any bad ≡ false)
Finishes BadLine old new bad = Appends old new (ending bad) × (if_any bad ≡ true)
Finishes ReadFault old new bad = ⊥
Finishes WriteFault old new bad = EndingFront old new bad
Finishes NoMemory old new bad = Keeps old new
