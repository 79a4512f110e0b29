-- What a call that asks for the next line did to its reader, which had `before` and has `after` left.
use Rattle.std.specs.Prelude.{◌≡◌, ◌≤◌, ◌⊎◌, ◌-◌, ◌^◌, ℕ, Bool, true, false, List, [], ◌∷◌, ◌++◌, length, Option, Result, Ok, Err}
use Rattle.std.specs.Io.KnownBytes.{Consumes}
use Rattle.event_file.specs.Lines.{has_newline}
use Rattle.program_ends.specs.Reads.{HasRead}
use Rattle.line_reader.specs.declared.fault.Fault.{Fault}
use Rattle.line_reader.specs.declared.fault.Fault.TheVariants as fault
use Rattle.line_reader.specs.declared.reader.TheConstants.{READ_ROOM}

-- some bytes were read
pub record Consumed (before after : Option (List ℕ)) : Type 0 where
  pub read : List ℕ
  pub consumes : Consumes before after read

-- the last read was needed: in what was left over, and was read before it, there is no newline
pub record Needed (before after : Option (List ℕ)) (old : List ℕ) : Type 0 where
  pub mid : Option (List ℕ)
  pub early : List ℕ
  pub last : List ℕ
  pub first : Consumes before mid early
  pub then : Consumes mid after last
  pub none : has_newline (old ++ early) ≡ false
  pub one_read : length last ≤ READ_ROOM

-- what was left over before, and then what was read, are the line, which has no newline in it, and what stands behind
-- it
pub record Parted (before after : Option (List ℕ)) (old line behind : List ℕ) : Type 0 where
  pub read : List ℕ
  pub consumes : Consumes before after read
  pub parts : old ++ read ≡ line ++ behind
  pub whole : has_newline line ≡ false

-- of what was ahead, the front before a newline was put behind what had come of the line, and the next stands behind
-- that; or all of it was, where there is no newline
abbrev pub TookLine : Bool → List ℕ → List ℕ → List ℕ → List ℕ → Type 0
TookLine true ahead next line new =
    (front : List ℕ) × (ahead ≡ front ++ 10 ∷ next) × (has_newline front ≡ false) × (new ≡ line ++ front)
TookLine false ahead next line new = (new ≡ line ++ ahead) × (has_newline ahead ≡ false) × (next ≡ [])

-- as many bytes were read as there are reads of one call
abbrev pub Spent : Option (List ℕ) → Option (List ℕ) → Type 0
Spent before after = HasRead (2 ^ 64 - 1) before after

-- what has come of a line that was not read to its end, and what was read behind it, which is nothing but where the
-- reads of a call are spent
pub record Begun (before after : Option (List ℕ)) (old line : List ℕ) : Type 0 where
  pub behind : List ℕ
  pub parted : Parted before after old line behind
  pub none : (behind ≡ []) ⊎ Spent before after

-- there was no memory for the line
abbrev pub wants_memory : {T : Type 0} → Result T Fault → Bool
wants_memory (Ok x) = false
wants_memory (Err fault.Read) = false
wants_memory (Err fault.Write) = false
wants_memory (Err fault.NoMemory) = true
