-- Worlds that a script leads to.
use Rattle.std.specs.Prelude.{ℕ, List}
use Rattle.event_file.specs.Lines.{answered_lines}
use Rattle.event_file.specs.Transcript.{Answered}
use Rattle.route_core.specs.World.{World, empty_world}
use Rattle.route_core.specs.Worlds.{IsWorld}

-- whatever a script's lines are answered from the empty world on, the last world is one in which the table, the
-- numbers, the ids and the queues are in order
abbrev pub ScriptsLeadToWorlds : Type 0
ScriptsLeadToWorlds = (script text : List ℕ) (last : World) → Answered empty_world (answered_lines script) text last
    → IsWorld last
