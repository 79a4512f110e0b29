-- How far a run has come: what its writer took, beside what was read.
use Rattle.std.specs.Prelude.{◌≡◌, List, ℕ, [], Option}
use Rattle.std.specs.Io.KnownBytes.{Appends, Consumes, Keeps}
use Rattle.event_file.specs.Lines.{begun_line}
use Rattle.program_ends.specs.declared.outcome.Outcome.{Outcome}
use Rattle.program_ends.specs.declared.outcome.Outcome.TheVariants.{Done, BadLine, ReadFault, WriteFault, NoMemory}
use Rattle.show_main.specs.Ends.{WroteFrontOf}
use Rattle.show_main.specs.Shown.{shown_ended, shown_line}

-- these bytes were read, the lines that are whole among them were shown, and the next line has begun with `line`
pub record Reached (before after old new : Option (List ℕ)) (line : List ℕ) : Type 0 where
  pub read : List ℕ
  pub consumes : Consumes before after read
  pub appends : Appends old new (shown_ended read)
  pub line_is : line ≡ begun_line read

-- a run whose last line is this one, without a newline, ended so
abbrev pub Finishes : Outcome → Option (List ℕ) → Option (List ℕ) → List ℕ → Type 0
Finishes Done old new line = Appends old new (shown_line line [])
Finishes BadLine old new line = ⊥
Finishes ReadFault old new line = ⊥
Finishes WriteFault old new line = WroteFrontOf (shown_line line []) old new
Finishes NoMemory old new line = Keeps old new
