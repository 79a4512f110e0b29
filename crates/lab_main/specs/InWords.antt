-- What is told of lines is, but for what routelab tells of its own, the transcript of their plain lines in words.
use Rattle.std.specs.Prelude.{◌≡◌, ℕ, Bool, true, false, not, List, [], ◌∷◌, ◌++◌, flat_map, if◌then◌else◌, Option, Some, None, Result, Ok, Err}
use Rattle.event_file.specs.Answers.{response_text}
use Rattle.event_file.specs.Counts.{one_more}
use Rattle.event_file.specs.Grammar.{command_of}
use Rattle.event_file.specs.Lines.{is_passed, kept}
use Rattle.event_file.specs.Transcript.{Answered, Responds}
use Rattle.event_file.specs.declared.bad.Bad.{Bad}
use Rattle.line_faults.specs.Faults.{fault_in}
use Rattle.plain_lines.specs.PlainLines.{plain_of}
use Rattle.route_core.specs.Commands.{Command}
use Rattle.route_core.specs.World.{World}
use Rattle.route_core.specs.declared.answer.Answer.{Answer}
use Rattle.world_words.specs.Answers.{answer_words}
use Rattle.lab_main.specs.Questions.{is_question}
use Rattle.lab_main.specs.Telling.{State, Told, answer_to, fault_words, plainly, shown}
use Rattle.lab_main.specs.declared.shows.Shows.{Shows}

-- a line, between two worlds, and how routesim responds to its plain line; to a question, an empty line and a comment
-- it responds nothing
pub record Reply : Type 0 where
  pub before : World
  pub after : World
  pub response : Option (Result Answer Bad)

-- ---- as routesim responds

abbrev pub response_bytes : Option (Result Answer Bad) → List ℕ
response_bytes None = []
response_bytes (Some response) = response_text response

-- the transcript of some replies
abbrev pub transcript_text : List Reply → List ℕ
transcript_text replies = flat_map (λ r. response_bytes r.response) replies

-- routesim has a response to the line
abbrev pub is_answered : List ℕ → Bool
is_answered line = if is_question line then false else not (is_passed (kept line))

-- the plain line that routesim is given of a line, if any
abbrev pub given_of : List ℕ → List (Option (List ℕ))
given_of line = if is_answered line then kept (plain_of line) ∷ [] else []

-- ---- in words

-- what routelab tells of its own: the answer to a question, or the plain line of an easier form
abbrev pub own_words : List ℕ → World → List ℕ
own_words line w =
    if is_question line then answer_to line w else if is_passed (kept line) then [] else plainly line

-- a response to the plain line, in words: what its command was answered, or why it is none
abbrev pub words_by : List ℕ → Option Command → Option (Result Answer Bad) → World → List ℕ
words_by line c None after = []
words_by line c (Some (Err bad)) after = fault_words line (fault_in line)
words_by line None (Some (Ok answer)) after = []
words_by line (Some c) (Some (Ok answer)) after = answer_words c answer after

abbrev pub reply_words : List ℕ → Reply → List ℕ
reply_words line r = words_by (plain_of line) (command_of (plain_of line)) r.response r.after

-- what is told of lines that were replied to so, behind so many lines
abbrev pub told_text : Shows → ℕ → List (List ℕ) → List Reply → List ℕ
told_text o count [] replies = []
told_text o count (line ∷ lines) [] = []
told_text o count (line ∷ lines) (r ∷ replies) =
    shown o (one_more count) line (own_words line r.before ++ reply_words line r) ++ told_text o (one_more count) lines replies

-- ---- the law

-- the reply fits the line: a response to the plain line as a transcript may have it, or none, and then the world stays
abbrev pub Fits : List ℕ → Bool → Reply → Type 0
Fits line true r = (response : Result Answer Bad) × (r.response ≡ Some response) × Responds r.before (kept (plain_of line)) response r.after
Fits line false r = (r.response ≡ None) × (r.after ≡ r.before)

-- a reply to each line, each from the world in which the one before ended
abbrev pub Replied : World → List (List ℕ) → List Reply → World → Type 0
Replied old [] [] new = new ≡ old
Replied old [] (r ∷ replies) new = ⊥
Replied old (line ∷ lines) [] new = ⊥
Replied old (line ∷ lines) (r ∷ replies) new =
    (r.before ≡ old) × Fits line (is_answered line) r × Replied r.after lines replies new

-- lines that are told have replies whose words are told, and whose bytes are a transcript of their plain lines
abbrev pub ToldInWords : Type 0
ToldInWords = (o : Shows) (old new : State) (lines : List (List ℕ)) (text : List ℕ) → Told o old lines text new
    → (replies : List Reply) × Replied old.world lines replies new.world
    × (text ≡ told_text o old.lines lines replies)
    × Answered old.world (flat_map given_of lines) (transcript_text replies) new.world
