-- Lines that are told are a run of the machine.
use Rattle.std.specs.Prelude.{◌≡◌, ℕ, List, [], ◌∷◌, flat_map, if◌then◌else◌, Option, Some, None}
use Rattle.event_file.specs.Grammar.{command_of}
use Rattle.event_file.specs.Lines.{is_passed, kept}
use Rattle.plain_lines.specs.PlainLines.{plain_of}
use Rattle.route_core.specs.Commands.{Command}
use Rattle.route_core.specs.Undisturbed.{Runs, Turn, commands_of}
use Rattle.lab_main.specs.Questions.{is_question}
use Rattle.lab_main.specs.Telling.{State, Told}
use Rattle.lab_main.specs.declared.shows.Shows.{Shows}

abbrev pub as_list : Option Command → List Command
as_list None = []
as_list (Some c) = c ∷ []

-- the command that a line says by its plain line; questions, empty lines, comments and bad lines say none
abbrev pub command_said : List ℕ → List Command
command_said line =
    if is_question line then [] else if is_passed (kept line) then [] else as_list (command_of (plain_of line))

-- the machine goes from the world before lines that are told to the world behind them by the commands that they say
abbrev pub ToldIsRun : Type 0
ToldIsRun = (o : Shows) (old new : State) (lines : List (List ℕ)) (text : List ℕ) → Told o old lines text new
    → (turns : List Turn) × (commands_of turns ≡ flat_map command_said lines) × Runs old.world turns new.world
