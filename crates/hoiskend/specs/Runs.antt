-- A list of calls on an open world.
use Rattle.std.specs.Prelude.{◌≡◌, ℕ, Bool, true, false, List, [], ◌∷◌, map, Option, Some, None}
use Rattle.std.specs.List.{AllByRecursion}
use Rattle.event_file.specs.Grammar.{command_of}
use Rattle.event_file.specs.Lines.{is_passed, kept}
use Rattle.route_core.specs.Commands.{Command}
use Rattle.route_core.specs.Step.{lacks_memory}
use Rattle.route_core.specs.Undisturbed.{Runs, Turn}
use Rattle.route_core.specs.World.{empty_world}
use Rattle.hoiskend.specs.Sessions.{Call, Asks, Says, Looks, Calls, Session, code_of, fresh}

-- a call, and the code that it gave
pub record Called : Type 0 where
  pub call : Call
  pub code : ℕ

-- the calls may be made so, one after another, and lead from the old handle to the new one
abbrev pub Made : Option Session → List Called → Option Session → Type 0
Made old [] new = new ≡ old
Made old (c ∷ cs) new = (next : Option Session) × Calls old c.call c.code next × Made next cs new

-- the command that a line says, if it is to be answered
abbrev pub said_unless : Bool → List ℕ → Option Command
said_unless true line = None
said_unless false line = command_of line

-- the command that a call gives the machine
abbrev pub command_by : Call → Option Command
command_by (Asks asked) = asked
command_by (Says line) = said_unless (is_passed (kept line)) line
command_by Looks = None

-- a command, and the code that its call gave
pub record Coded : Type 0 where
  pub command : Command
  pub code : ℕ

abbrev pub with_command : Option Command → ℕ → List Coded → List Coded
with_command None code coded = coded
with_command (Some command) code coded = record { command = command; code = code } ∷ coded

-- the commands that the calls give the machine, in order, with the codes
abbrev pub coded_of : List Called → List Coded
coded_of [] = []
coded_of (c ∷ cs) = with_command (command_by c.call) c.code (coded_of cs)

abbrev pub coded_turn : Turn → Coded
coded_turn t = record { command = t.command; code = code_of t.answer }

-- no turn is answered that there is no memory
abbrev pub HaveMemory : List Turn → Type 0
HaveMemory turns = AllByRecursion (λ t. lacks_memory t.answer ≡ false) turns

-- any list of calls on a world that was just opened is a run of the machine from the empty world: its turns are the
-- commands that the calls give it, in order, each with an answer whose number is the code that the call gave; and the
-- world stays open; and where memory was never refused to it, no turn is answered that there is none
abbrev pub CallsAreARun : Type 0
CallsAreARun = (calls : List Called) (new : Option Session) → Made (Some fresh) calls new
    → (last : Session) × (new ≡ Some last)
    × (turns : List Turn) × (map coded_turn turns ≡ coded_of calls) × Runs empty_world turns last.world
    × (last.refused ≡ 0 → HaveMemory turns)
