-- The transcript of a script: what may be answered to its lines, from the empty world on.
use Rattle.std.specs.Prelude.{◌≡◌, ◌≢◌, Bool, false, ◌||◌, is_none, List, [], ◌∷◌, ◌++◌, codes, ℕ, Option, Some, None, Result, Ok, Err}
use Rattle.std.specs.List.{All}
use Rattle.event_file.specs.declared.bad.Bad.{Bad}
use Rattle.route_core.specs.declared.answer.Answer.{Answer}
use Rattle.route_core.specs.declared.answer.Answer.TheVariants.{Refused}
use Rattle.sock_addrs.specs.declared.errno.Errno.TheVariants.{ENOBUFS}
use Rattle.route_core.specs.Commands.{Command}
use Rattle.event_file.specs.Answers.{response_text}
use Rattle.event_file.specs.Grammar.{command_of}
use Rattle.event_file.specs.Lines.{answered_lines, lines_of}
use Rattle.route_core.specs.Step.{Steps, stepped}
use Rattle.route_core.specs.World.{World, empty_world}

-- ---- one line

-- the command that a line says; one that is too long says none
abbrev pub command_in : Option (List ℕ) → Option Command
command_in None = None
command_in (Some line) = command_of line

-- a line may be answered so in the old world, and the world is then the new one: a command by a step, and a malformed
-- line by `bad`, in a world that stays
abbrev pub Responds : World → Option (List ℕ) → Result Answer Bad → World → Type 0
Responds old line (Ok answer) new =
    (command : Command) × (command_in line ≡ Some command) × Steps old command answer new
Responds old line (Err bad) new = (command_in line ≡ None) × (new ≡ old)

-- ---- lines, one after another

-- the lines may be answered by this text, and the world is then the new one
abbrev pub Answered : World → List (Option (List ℕ)) → List ℕ → World → Type 0
Answered old [] text new = (text ≡ []) × (new ≡ old)
Answered old (line ∷ lines) text new = (response : Result Answer Bad) × (next : World) × (rest : List ℕ)
    × Responds old line response next × (text ≡ response_text response ++ rest) × Answered next lines rest new

-- the text is a transcript of the script
abbrev pub IsTranscript : List ℕ → List ℕ → Type 0
IsTranscript script text = (last : World) × Answered empty_world (answered_lines script) text last

-- some line is malformed, and so is answered `bad`
abbrev pub has_bad_line : List (Option (List ℕ)) → Bool
has_bad_line [] = false
has_bad_line (line ∷ lines) = is_none (command_in line) || has_bad_line lines

-- ---- the transcript of a run in which nothing is refused for want of memory

-- the answer to a line, and the world after it
pub record Turn : Type 0 where
  pub response : Result Answer Bad
  pub world : World

abbrev pub turn_by : World → Option Command → Turn
turn_by world None = record { response = Err (record {}); world = world }
turn_by world (Some command) =
    let after = stepped world command in record { response = Ok after.answer; world = after.world }

-- the text of a turn, and then the text from its world on
abbrev pub text_from : Turn → (World → List ℕ) → List ℕ
text_from turn rest = response_text turn.response ++ rest turn.world

abbrev pub transcript_from : List (Option (List ℕ)) → World → List ℕ
transcript_from [] world = []
transcript_from (line ∷ lines) world = text_from (turn_by world (command_in line)) (transcript_from lines)

abbrev pub transcript_of : List ℕ → List ℕ
transcript_of script = transcript_from (answered_lines script) empty_world

-- it is a transcript
abbrev pub ComputedIsTranscript : Type 0
ComputedIsTranscript = (script : List ℕ) → IsTranscript script (transcript_of script)

-- and the only one where memory is never refused: any other answer to a line is the computed one, and so is the world
-- after it
abbrev pub ResponseIsComputed : Type 0
ResponseIsComputed = (old : World) → (line : Option (List ℕ)) → (response : Result Answer Bad) → (next : World)
    → Responds old line response next → response ≢ Ok (Refused ENOBUFS)
    → (response ≡ (turn_by old (command_in line)).response) × (next ≡ (turn_by old (command_in line)).world)

-- so a transcript in which no line says that memory was refused is the computed one
abbrev pub TranscriptIsComputed : Type 0
TranscriptIsComputed = (script text : List ℕ) → IsTranscript script text
    → All (λ line. line ≢ codes "err 55") (lines_of text) → text ≡ transcript_of script
