-- What is told of each line of a text, and of all of them one after another.
use Rattle.std.specs.Prelude.{◌≡◌, ◌&&◌, ℕ, Bool, true, false, not, List, [], ◌∷◌, ◌++◌, bytes_eq, codes, decimal, map, MatchBool, if◌then◌else◌, Option, Some, None, is_none}
use Rattle.event_file.specs.Counts.{one_more}
use Rattle.event_file.specs.Grammar.{command_of}
use Rattle.event_file.specs.Lines.{is_passed, kept}
use Rattle.event_file.specs.Words.{parted_by}
use Rattle.line_faults.specs.Faults.{fault_in}
use Rattle.line_faults.specs.Help.{help_on}
use Rattle.line_faults.specs.Texts.{wanted_text}
use Rattle.line_faults.specs.Words.{word_of}
use Rattle.line_faults.specs.declared.faults.LineFault.{LineFault}
use Rattle.line_faults.specs.declared.wanted.Wanted.{Wanted}
use Rattle.line_faults.specs.declared.wanted.Wanted.TheVariants.{ShorterLine}
use Rattle.plain_lines.specs.PlainLines.{plain_of}
use Rattle.route_core.specs.Commands.{Command}
use Rattle.route_core.specs.Step.{StepsCounted}
use Rattle.route_core.specs.Told.{all_told}
use Rattle.route_core.specs.World.{World, empty_world}
use Rattle.route_core.specs.declared.answer.Answer.{Answer}
use Rattle.world_words.specs.Agreeing.{agreeing_words}
use Rattle.world_words.specs.Answers.{answer_words}
use Rattle.world_words.specs.Interfaces.{interfaces_words}
use Rattle.world_words.specs.Sockets.{sockets_words}
use Rattle.world_words.specs.Table.{table_words}
use Rattle.tree_pictures.specs.Drawing.{tree_text}
use Rattle.tree_pictures.specs.Steps.{find_text}
use Rattle.tree_pictures.specs.declared.pair.Pair.{Pair}
use Rattle.lab_main.specs.Help.{help, no_question}
use Rattle.lab_main.specs.Pairs.{pair_of}
use Rattle.lab_main.specs.Questions.{ends_all, is_question, question_of}
use Rattle.lab_main.specs.Texts.{echoed, indented, told_plainly, wrong_text}
use Rattle.lab_main.specs.declared.questions.Question.{Question}
use Rattle.lab_main.specs.declared.questions.Question.TheVariants.{Table, Tree, Find, Why, Interfaces, Sockets, Help, HelpOn, Quit}
use Rattle.lab_main.specs.declared.shows.Shows.{Shows}

-- a world, and how often it was refused memory until then
pub record Point : Type 0 where
  pub world : World
  pub refused : ℕ

-- what stands between two lines: the world, how often it was refused memory until then, how many lines were told, the
-- numbers of those that were bad, and whether `?quit` was among them
pub record State : Type 0 where
  pub world : World
  pub refused : ℕ
  pub lines : ℕ
  pub bad : List ℕ
  pub over : Bool

-- before the first line
abbrev pub fresh : State
fresh = record { world = empty_world; refused = 0; lines = 0; bad = []; over = false }

-- ---- a question

-- the routes by their pairs, in table order
abbrev pub pairs_of : World → List Pair
pairs_of w = map pair_of (all_told w)

abbrev pub told_of : Question → World → List ℕ
told_of Table w = table_words (all_told w) w
told_of Tree w = tree_text (pairs_of w)
told_of (Find address) w = find_text address (pairs_of w)
told_of (Why address) w = agreeing_words address (all_told w) w
told_of Interfaces w = interfaces_words w
told_of Sockets w = sockets_words w
told_of Help w = help
told_of (HelpOn verb) w = help_on verb
told_of Quit w = []

abbrev pub answer_by : Option Question → List ℕ → World → List ℕ
answer_by None line w = no_question line
answer_by (Some question) line w = told_of question w

-- to a line behind `?`
abbrev pub answer_to : List ℕ → World → List ℕ
answer_to line w = answer_by (question_of line) line w

-- ---- a command

-- the plain line, where the line is one of the easier forms
abbrev pub plainly : List ℕ → List ℕ
plainly line = if bytes_eq (plain_of line) line then [] else told_plainly (plain_of line)

abbrev pub word_shown : Option (List ℕ) → List ℕ
word_shown None = codes " is missing"
word_shown (Some word) = wrong_text word

-- which word is wrong, counted from 1 on, and what is wanted there
abbrev pub wrong_word : List ℕ → LineFault → List ℕ
wrong_word line f = codes "bad: word " ++ decimal (one_more f.place) ++ word_shown (word_of (parted_by 32 line) f.place)
    ++ codes "; wanted: " ++ wanted_text f.wanted ++ codes "\n"

-- where a line is too long, no word is at fault
abbrev pub wrong_by : List ℕ → LineFault → Wanted → List ℕ
wrong_by line f ShorterLine = codes "bad: wanted: a line of at most 16500 bytes\n"
wrong_by line f wanted = wrong_word line f

-- why a line is no command
abbrev pub fault_words : List ℕ → Option LineFault → List ℕ
fault_words line None = codes "bad\n"
fault_words line (Some f) = wrong_by line f f.wanted

-- behind a front a step answers the command of a plain line, between two counts of refused memory; of a line that is
-- none it is told why
abbrev pub ObeysBy : World → List ℕ → Option Command → List ℕ → List ℕ → World → ℕ → ℕ → Type 0
ObeysBy old line None front body new before after =
    (body ≡ front ++ fault_words line (fault_in line)) × (new ≡ old) × (after ≡ before)
ObeysBy old line (Some command) front body new before after =
    (answer : Answer) × StepsCounted old command answer new before after × (body ≡ front ++ answer_words command answer new)

abbrev pub Obeys : World → List ℕ → List ℕ → List ℕ → World → ℕ → ℕ → Type 0
Obeys old line front body new before after = ObeysBy old line (command_of line) front body new before after

-- ---- a line

-- this is told, and nothing changes
pub record Says (text : List ℕ) (old : World) (body : List ℕ) (new : World) (before after : ℕ) : Type 0 where
  pub body_is : body ≡ text
  pub kept : new ≡ old
  pub count : after ≡ before

-- a question is answered, an empty line and a comment are told nothing, and any other line is obeyed
abbrev pub Answers : World → List ℕ → List ℕ → World → ℕ → ℕ → Type 0
Answers old line body new before after = MatchBool (is_question line)
    (Says (answer_to line old) old body new before after)
    (MatchBool (is_passed (kept line)) (Says [] old body new before after)
    (Obeys old (plain_of line) (plainly line) body new before after))

-- a line is bad that is neither a question nor a command
abbrev pub is_bad : List ℕ → Bool
is_bad line =
    if is_question line then is_none (question_of line)
    else not (is_passed (kept line)) && is_none (command_of (plain_of line))

abbrev pub is_quit : List ℕ → Bool
is_quit line = is_question line && ends_all (question_of line)

-- the line with its number, where lines are shown, and what is told of it, unless that is only `ok` and such aren't
-- shown
abbrev pub shown : Shows → ℕ → List ℕ → List ℕ → List ℕ
shown o number line body =
    (if o.echo then echoed number line else [])
    ++ (if not o.done && bytes_eq body (codes "ok\n") then [] else indented body)

-- a line may be told so in one state, and the next is then the other; none is behind `?quit`
pub record Tells (o : Shows) (old : State) (line text : List ℕ) (new : State) : Type 0 where
  pub goes_on : old.over ≡ false
  pub body : List ℕ
  pub answers : Answers old.world line body new.world old.refused new.refused
  pub text_is : text ≡ shown o new.lines line body
  pub lines_are : new.lines ≡ one_more old.lines
  pub bad_are : new.bad ≡ old.bad ++ (if is_bad line then new.lines ∷ [] else [])
  pub over_is : new.over ≡ is_quit line

-- ---- lines one after another

abbrev pub Told : Shows → State → List (List ℕ) → List ℕ → State → Type 0
Told o old [] text new = (text ≡ []) × (new ≡ old)
Told o old (line ∷ lines) text new = (mid : State) × (first rest : List ℕ) × Tells o old line first mid
    × (text ≡ first ++ rest) × Told o mid lines rest new

-- some line was bad
abbrev pub if_any : List ℕ → Bool
if_any [] = false
if_any (n ∷ ns) = true
