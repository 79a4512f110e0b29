-- What a run with an outcome did to its reader, which had `before` and has `after` left, and to its writer, which
-- held `old` and holds `new`.
use Rattle.std.specs.Prelude.{◌≡◌, Bool, true, false, List, ◌++◌, ℕ, Option, ◌⊎◌}
use Rattle.std.specs.Io.KnownBytes.{Appends, Consumes, IsAtEnd, Keeps}
use Rattle.event_file.specs.Causes.{IsComputed, IsTranscriptCounted}
use Rattle.event_file.specs.Lines.{answered_lines, ended_lines}
use Rattle.event_file.specs.Transcript.{IsTranscript, has_bad_line}
use Rattle.program_ends.specs.declared.outcome.Outcome.{Outcome}
use Rattle.program_ends.specs.declared.outcome.Outcome.TheVariants.{Done, BadLine, ReadFault, WriteFault, NoMemory}

-- Below `is` says what a text is to its script: a transcript; one with memory counted; or the one that the machine
-- computes.

-- it wrote a transcript of all that the reader had; of a malformed line among it or of none
pub record AnsweredAll (is : List ℕ → List ℕ → Type 0) (before after old new : Option (List ℕ))
    (is_bad : Bool) : Type 0 where
  pub read : List ℕ
  pub written : List ℕ
  pub consumes : Consumes before after read
  pub all : IsAtEnd after
  pub appends : Appends old new written
  pub transcript : is read written
  pub bad : has_bad_line (answered_lines read) ≡ is_bad

-- it wrote a transcript of the lines that were read to their ends
pub record AnsweredEnded (is : List ℕ → List ℕ → Type 0) (before after old new : Option (List ℕ)) : Type 0 where
  pub read : List ℕ
  pub written : List ℕ
  pub consumes : Consumes before after read
  pub appends : Appends old new written
  pub transcript : is (ended_lines read) written

-- a writer took what stands before some unwritten rest of a transcript
pub record WroteFrontOf (is : List ℕ → List ℕ → Type 0) (script : List ℕ) (old new : Option (List ℕ)) : Type 0 where
  pub written : List ℕ
  pub unwritten : List ℕ
  pub appends : Appends old new written
  pub transcript : is script (written ++ unwritten)

-- it wrote a front of a transcript of the lines that were read to their ends, the last at the end of the script
pub record AnsweredFront (is : List ℕ → List ℕ → Type 0) (before after old new : Option (List ℕ)) : Type 0 where
  pub read : List ℕ
  pub consumes : Consumes before after read
  pub front : WroteFrontOf is (ended_lines read) old new ⊎ (IsAtEnd after × WroteFrontOf is read old new)

-- all lines were answered
abbrev pub IsAnswered : Outcome → Type 0
IsAnswered Done = Unit {0}
IsAnswered BadLine = Unit {0}
IsAnswered ReadFault = ⊥
IsAnswered WriteFault = ⊥
IsAnswered NoMemory = ⊥

-- what a run with this outcome did
abbrev pub EndsBy : (List ℕ → List ℕ → Type 0) → Outcome → Option (List ℕ) → Option (List ℕ) → Option (List ℕ)
    → Option (List ℕ) → Type 0
EndsBy is Done before after old new = AnsweredAll is before after old new false
EndsBy is BadLine before after old new = AnsweredAll is before after old new true
EndsBy is ReadFault before after old new = AnsweredEnded is before after old new
EndsBy is WriteFault before after old new = AnsweredFront is before after old new
EndsBy is NoMemory before after old new = Keeps before after × Keeps old new

abbrev pub Ends : Outcome → Option (List ℕ) → Option (List ℕ) → Option (List ℕ) → Option (List ℕ) → Type 0
Ends outcome before after old new = EndsBy IsTranscript outcome before after old new

-- and memory was refused so often before it and so often after it
abbrev pub EndsCounted : Outcome → Option (List ℕ) → Option (List ℕ) → Option (List ℕ) → Option (List ℕ) → ℕ → ℕ
    → Type 0
EndsCounted outcome before after old new low high =
    EndsBy (λ script text. IsTranscriptCounted script text low high) outcome before after old new

-- what it did where memory was never refused
abbrev pub EndsComputed : Outcome → Option (List ℕ) → Option (List ℕ) → Option (List ℕ) → Option (List ℕ) → Type 0
EndsComputed outcome before after old new = EndsBy IsComputed outcome before after old new
