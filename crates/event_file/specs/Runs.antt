-- What a transcript shows of a run of commands; and that in it, too, listeners do not disturb each other.
use Rattle.std.specs.Prelude.{◌≡◌, ◌≢◌, ℕ, false, List, codes, flat_map, map, Some}
use Rattle.std.specs.List.{All}
use Rattle.route_core.specs.Commands.{Command}
use Rattle.route_core.specs.Undisturbed.{Runs, Turn, commands_left, commands_of, turns_left}
use Rattle.route_core.specs.World.{World, empty_world}
use Rattle.event_file.specs.Answers.{answer_text}
use Rattle.event_file.specs.Lines.{answered_lines, lines_of}
use Rattle.event_file.specs.Transcript.{IsTranscript, command_in, has_bad_line}

-- ---- a transcript is a run

-- the lines of the script that are answered say these commands, each line one
abbrev pub SaysCommands : List ℕ → List Command → Type 0
SaysCommands script commands = map command_in (answered_lines script) ≡ map Some commands

-- the texts of the answers, one after another
abbrev pub text_of : List Turn → List ℕ
text_of turns = flat_map (λ t. answer_text t.answer) turns

-- from the empty world on, the script's commands may be answered so
abbrev pub IsRun : List ℕ → List Turn → Type 0
IsRun script turns = SaysCommands script (commands_of turns) × (last : World) × Runs empty_world turns last

-- a transcript of a script without a malformed line is the text of a run of its commands
abbrev pub TranscriptIsRun : Type 0
TranscriptIsRun = (script text : List ℕ) → has_bad_line (answered_lines script) ≡ false → IsTranscript script text
    → (turns : List Turn) × IsRun script turns × (text ≡ text_of turns)

-- and the text of each such run is a transcript
abbrev pub RunIsTranscript : Type 0
RunIsTranscript = (script : List ℕ) (turns : List Turn) → IsRun script turns → IsTranscript script (text_of turns)

-- ---- listeners do not disturb each other

-- no line of the text tells that too many sockets are open, or that there is no memory
abbrev pub TextHasRoom : List ℕ → Type 0
TextHasRoom text = All (λ line. (line ≢ codes "err 24") × (line ≢ codes "err 55")) (lines_of text)

-- of the script's transcripts this is the one in which no line tells so
abbrev pub IsOnlyTranscript : List ℕ → List ℕ → Type 0
IsOnlyTranscript script text = IsTranscript script text × TextHasRoom text
    × ((other : List ℕ) → IsTranscript script other → TextHasRoom other → other ≡ text)

-- No listener disturbs another in this text of a script, where it has room. For each id x it is the text of a run, and
-- a script of the commands that are left for x has the transcript of exactly the turns that are left. So every line of
-- x, every write, and every line that names no id is answered by the same bytes as before, and what x reads are the
-- same messages.
abbrev pub IsUndisturbed : List ℕ → List ℕ → Type 0
IsUndisturbed script text = TextHasRoom text → (x : List ℕ) → (turns : List Turn) × IsRun script turns
    × (text ≡ text_of turns)
    × ((rest : List ℕ) → SaysCommands rest (commands_left x (commands_of turns))
    → IsOnlyTranscript rest (text_of (turns_left x turns)))

-- in each transcript of a script without a malformed line
abbrev pub OthersLeaveTheText : Type 0
OthersLeaveTheText = (script text : List ℕ) → has_bad_line (answered_lines script) ≡ false
    → IsTranscript script text → IsUndisturbed script text
