-- What a call that shows some text did to its counted writer where it could not show all.
use Rattle.std.specs.Prelude.{◌≡◌, ℕ, ◌+◌, Bool, true, false, List, ◌++◌, Option}
use Rattle.std.specs.Io.KnownBytes.{Appends}
use Rattle.event_file.specs.Counts.{Counts}
use Rattle.event_file.specs.Output.{Wrote}
use Rattle.show_main.specs.Shown.{shown_lines, whole_lines}
use Rattle.show_main.specs.declared.lines.Fault.{Fault}
use Rattle.show_main.specs.declared.lines.Fault.TheVariants.{Stopped, NoMemory}

-- how many writes failed
abbrev pub failures_of : Fault → ℕ
failures_of Stopped = 1
failures_of NoMemory = 0

-- whether there was no memory
abbrev pub is_want_of_memory : Fault → Bool
is_want_of_memory Stopped = false
is_want_of_memory NoMemory = true

-- the writer took what stands before some unwritten rest of the text
pub record ShowedFront (fault : Fault) {T : Type 0} (contents : T → Option (List ℕ)) (old new : Counts T)
    (text : List ℕ) : Type 0 where
  pub written : List ℕ
  pub unwritten : List ℕ
  pub whole : text ≡ written ++ unwritten
  pub appends : Appends (contents old.inner) (contents new.inner) written
  pub failures : new.failures ≡ old.failures + failures_of fault

-- of the whole lines of a text those were shown that stand before this rest of them
pub record ShowedLines {T : Type 0} (contents : T → Option (List ℕ)) (old new : Counts T) (text : List ℕ)
    (rest : List (List ℕ)) : Type 0 where
  pub done : List (List ℕ)
  pub lines : whole_lines text ≡ done ++ rest
  pub wrote : Wrote contents old new (shown_lines done)
