-- Transcripts beside the count of refused memory: each answer that there is none has its cause.
use Rattle.std.specs.Prelude.{◌≡◌, ◌≢◌, ◌≤◌, ◌+◌, ℕ, List, [], ◌∷◌, ◌++◌, length, filter, codes, bytes_eq, Option, Some, None, Result, Ok, Err}
use Rattle.std.specs.List.{All}
use Rattle.event_file.specs.Answers.{response_text}
use Rattle.event_file.specs.Lines.{answered_lines, lines_of}
use Rattle.event_file.specs.Transcript.{IsTranscript, command_in, transcript_of}
use Rattle.event_file.specs.declared.bad.Bad.{Bad}
use Rattle.route_core.specs.Commands.{Command}
use Rattle.route_core.specs.Step.{StepsCounted}
use Rattle.route_core.specs.World.{World, empty_world}
use Rattle.route_core.specs.declared.answer.Answer.{Answer}

-- ---- memory is counted where it is refused

-- a line may be answered so, and memory was refused so often before it and so often after it: a command by a counted
-- step; a malformed line asks for none
abbrev pub RespondsCounted : World → Option (List ℕ) → Result Answer Bad → World → ℕ → ℕ → Type 0
RespondsCounted old line (Ok answer) new before after =
    (command : Command) × (command_in line ≡ Some command) × StepsCounted old command answer new before after
RespondsCounted old line (Err bad) new before after = (command_in line ≡ None) × (new ≡ old) × (after ≡ before)

-- the lines, one after another, may be answered by this text
abbrev pub AnsweredCounted : World → List (Option (List ℕ)) → List ℕ → World → ℕ → ℕ → Type 0
AnsweredCounted old [] text new before after = (text ≡ []) × (new ≡ old) × (after ≡ before)
AnsweredCounted old (line ∷ lines) text new before after =
    (response : Result Answer Bad) × (next : World) × (mid : ℕ) × (rest : List ℕ)
    × RespondsCounted old line response next before mid × (text ≡ response_text response ++ rest)
    × AnsweredCounted next lines rest new mid after

-- the text is a transcript of the script, and memory was refused so often before it and so often after it
abbrev pub IsTranscriptCounted : List ℕ → List ℕ → ℕ → ℕ → Type 0
IsTranscriptCounted script text before after =
    (last : World) × AnsweredCounted empty_world (answered_lines script) text last before after

-- ---- laws

-- it is a transcript
abbrev pub CountedIsTranscript : Type 0
CountedIsTranscript = (script text : List ℕ) (before after : ℕ) → IsTranscriptCounted script text before after
    → IsTranscript script text

-- how many lines of a text say that there is no memory
abbrev pub refusals : List ℕ → ℕ
refusals text = length (filter (λ line. bytes_eq line (codes "err 55")) (lines_of text))

-- the count rises for each of them, and for nothing else
abbrev pub EachRefusalIsCounted : Type 0
EachRefusalIsCounted = (script text : List ℕ) (before after : ℕ) → IsTranscriptCounted script text before after
    → (before + refusals text ≤ after) × (refusals text ≡ 0 → after ≡ before)

-- so where the count stands, the text is the one that the machine computes
abbrev pub UnrefusedIsComputed : Type 0
UnrefusedIsComputed = (script text : List ℕ) (before after : ℕ) → IsTranscriptCounted script text before after
    → after ≡ before → text ≡ transcript_of script

-- which is one for every count that stands
abbrev pub ComputedIsCounted : Type 0
ComputedIsCounted = (script : List ℕ) (count : ℕ) → IsTranscriptCounted script (transcript_of script) count count

-- no line of a text says that there is no memory
abbrev pub TextHasMemory : List ℕ → Type 0
TextHasMemory text = All (λ line. line ≢ codes "err 55") (lines_of text)

-- and in which no line says so
abbrev pub ComputedHasMemory : Type 0
ComputedHasMemory = (script : List ℕ) → TextHasMemory (transcript_of script)

-- the text is the one that the machine computes of the script, and no line of it says that there is no memory
abbrev pub IsComputed : List ℕ → List ℕ → Type 0
IsComputed script text = (text ≡ transcript_of script) × TextHasMemory text
