-- How far a run has come: its world and what its writer took, beside what was read.
use Rattle.std.specs.Prelude.{◌≡◌, Bool, false, ◌||◌, filter, List, [], ◌∷◌, ◌++◌, length, ◌≤◌, ℕ, Option}
use Rattle.std.specs.Io.KnownBytes.{Appends, Consumes, IsAtEnd}
use Rattle.program_ends.specs.declared.outcome.Outcome.{Outcome}
use Rattle.event_file.specs.Causes.{AnsweredCounted}
use Rattle.event_file.specs.Lines.{Line, answered_lines, begun_line, ended_lines, is_answered, kept}
use Rattle.event_file.specs.Transcript.{has_bad_line}
use Rattle.route_main.specs.Ends.{EndsCounted}
use Rattle.route_core.specs.World.{World, empty_world}

-- the world, and whether some line was malformed
pub record Held : Type 0 where
  pub world : World
  pub has_bad : Bool

abbrev pub held : World → Bool → Held
held world has_bad = record { world = world; has_bad = has_bad }

-- before the first line
abbrev pub fresh : Held
fresh = record { world = empty_world; has_bad = false }

-- these, and how often memory was refused
pub record Standing : Type 0 where
  pub world : World
  pub has_bad : Bool
  pub refused : ℕ

abbrev pub standing : Held → ℕ → Standing
standing h refused = record { world = h.world; has_bad = h.has_bad; refused = refused }

-- the line alone, or none where it gives no answer
abbrev pub answered_of : Option (List ℕ) → List (Option (List ℕ))
answered_of line = filter is_answered (line ∷ [])

-- these lines were answered on the way from one standing to another, and the writer, which held `old` and holds
-- `new`, took their text
pub record Answers (from to : Standing) (old new : Option (List ℕ)) (lines : List (Option (List ℕ))) : Type 0 where
  pub written : List ℕ
  pub appends : Appends old new written
  pub answered : AnsweredCounted from.world lines written to.world from.refused to.refused
  pub bad : to.has_bad ≡ (from.has_bad || has_bad_line lines)

-- the writer stopped within what these lines may be answered, and memory was refused so often until then
pub record StopsWithin (from : Standing) (refused : ℕ) (old new : Option (List ℕ))
    (lines : List (Option (List ℕ))) : Type 0 where
  pub written : List ℕ
  pub unwritten : List ℕ
  pub last : World
  pub appends : Appends old new written
  pub answered : AnsweredCounted from.world lines (written ++ unwritten) last from.refused refused

-- the lines that are whole among the bytes read were answered, and the line buffer holds what has come of the next
pub record Progress (from to : Standing) (old new : Option (List ℕ)) (read : List ℕ) (line : Line) : Type 0 where
  pub answers : Answers from to old new (answered_lines (ended_lines read))
  pub line_is : line ≡ record { text = kept (begun_line read); ended = false }

-- a run that had come to one standing and line has come to another by these bytes
pub record Advances (from to : Standing) (old new : Option (List ℕ)) (bytes : List ℕ) (line next : Line) : Type 0 where
  pub on : (first : Standing) (start : Option (List ℕ)) (read : List ℕ) → Progress first from start old read line
      → Progress first to start new (read ++ bytes) next

-- a run that had come to this standing and line was stopped by its writer within these bytes
pub record Breaks (from : Standing) (refused : ℕ) (old new : Option (List ℕ)) (bytes : List ℕ)
    (line : Line) : Type 0 where
  pub on : (first : Standing) (start : Option (List ℕ)) (read : List ℕ) → Progress first from start old read line
      → StopsWithin first refused start new (answered_lines (ended_lines (read ++ bytes)))

-- a run that had come to this standing and line at the end of its script ends so
pub record Finishes (outcome : Outcome) (from : Standing) (refused : ℕ) (old new : Option (List ℕ))
    (line : Line) : Type 0 where
  pub on : (count : ℕ) (before after start : Option (List ℕ)) (read : List ℕ) → Consumes before after read
      → IsAtEnd after
      → Progress (standing fresh count) from start old read line
      → EndsCounted outcome before after start new count refused

-- a run that began with this count has read these bytes, and come to this standing and line by them
pub record Reached (count : ℕ) (to : Standing) (before after old new : Option (List ℕ)) (line : Line) : Type 0 where
  pub read : List ℕ
  pub consumes : Consumes before after read
  pub progress : Progress (standing fresh count) to old new read line

-- at least this many bytes have been read
pub record HasRead (least : ℕ) (before after : Option (List ℕ)) : Type 0 where
  pub read : List ℕ
  pub consumes : Consumes before after read
  pub many : least ≤ length read
