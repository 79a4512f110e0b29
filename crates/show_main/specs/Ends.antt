-- What a run with an outcome did to its reader, which had `before` and has `after` left, and to its writer, which
-- held `old` and holds `new`.
use Rattle.std.specs.Prelude.{◌≡◌, ◌<◌, ◌≤◌, List, ◌++◌, ℕ, Option, ◌⊎◌}
use Rattle.std.specs.Io.KnownBytes.{Appends, Consumes, IsAtEnd}
use Rattle.program_ends.specs.declared.outcome.Outcome.{Outcome}
use Rattle.program_ends.specs.declared.outcome.Outcome.TheVariants.{Done, BadLine, ReadFault, WriteFault, NoMemory}
use Rattle.show_main.specs.Shown.{shown_ended, shown_lines, shown_text, whole_lines}

-- it wrote all that the reader had, with each message in words
pub record ShowedAll (before after old new : Option (List ℕ)) : Type 0 where
  pub read : List ℕ
  pub consumes : Consumes before after read
  pub all : IsAtEnd after
  pub appends : Appends old new (shown_text read)

-- it wrote the lines that were read to their ends, with each message in words
pub record ShowedEnded (before after old new : Option (List ℕ)) : Type 0 where
  pub read : List ℕ
  pub consumes : Consumes before after read
  pub appends : Appends old new (shown_ended read)

-- a writer took what stands before some unwritten rest of a text
pub record WroteFrontOf (text : List ℕ) (old new : Option (List ℕ)) : Type 0 where
  pub written : List ℕ
  pub unwritten : List ℕ
  pub appends : Appends old new written
  pub whole : text ≡ written ++ unwritten

-- it wrote a front of what it would have written of the lines that were read to their ends, the last at the end of the
-- text
pub record ShowedFrontOf (before after old new : Option (List ℕ)) : Type 0 where
  pub read : List ℕ
  pub consumes : Consumes before after read
  pub front : WroteFrontOf (shown_ended read) old new ⊎ (IsAtEnd after × WroteFrontOf (shown_text read) old new)

-- it wrote the first of the lines that were read to their ends, with each message in words, and nothing of the others
pub record ShowedFirst (before after old new : Option (List ℕ)) : Type 0 where
  pub read : List ℕ
  pub done : List (List ℕ)
  pub rest : List (List ℕ)
  pub consumes : Consumes before after read
  pub lines : whole_lines read ≡ done ++ rest
  pub appends : Appends old new (shown_lines done)

-- what a run with this outcome did; none meets a bad line
abbrev pub Ends : Outcome → Option (List ℕ) → Option (List ℕ) → Option (List ℕ) → Option (List ℕ) → Type 0
Ends Done before after old new = ShowedAll before after old new
Ends BadLine before after old new = ⊥
Ends ReadFault before after old new = ShowedEnded before after old new
Ends WriteFault before after old new = ShowedFrontOf before after old new
Ends NoMemory before after old new = ShowedFirst before after old new

-- how often memory was refused before a run with this outcome, and after it. A want of memory ends the run, with its
-- own outcome, or as a write fault where what was shown before it can't be flushed
abbrev pub EndsCounted : Outcome → ℕ → ℕ → Type 0
EndsCounted Done low high = high ≡ low
EndsCounted BadLine low high = ⊥
EndsCounted ReadFault low high = high ≡ low
EndsCounted WriteFault low high = low ≤ high
EndsCounted NoMemory low high = low < high
