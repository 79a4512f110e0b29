-- A script leads from the empty world to worlds alone: each line's command is in its ranges, and each step keeps a
-- world.
use Rattle.std.proofs.Common.{◌≡◌, ◌<◌, ℕ, suc, List, [], ◌∷◌, Option, Some, None, sym, subst}
use Rattle.std.specs.Prelude.{Result, Ok, Err}
use Rattle.std.specs.List.{AllByRecursion}
use Rattle.hex.specs.Hex.{IsBytes}
use Rattle.event_file.specs.Printed.{IsWithinBounds, ReadIsWithinBounds}
use Rattle.event_file.specs.Reached.{ScriptsLeadToWorlds}
use Rattle.event_file.specs.Lines.{answered_lines}
use Rattle.event_file.specs.Transcript.{Answered, Responds, command_in}
use Rattle.event_file.specs.declared.bad.Bad.{Bad}
use Rattle.route_core.specs.Commands.{Command}
use Rattle.route_core.specs.World.{World, empty_world}
use Rattle.route_core.specs.Worlds.{IsInRange, IsWorld}
use Rattle.route_core.specs.declared.answer.Answer.{Answer}
use Rattle.route_core.specs.declared.command.Command.TheVariants.{Attach, AddAddress, RemoveAddress, Open, Close, Loopback, Write, Read, Lost, Packet, Redirect, Losing, DumpSize, Dump}
use Rattle.route_core.proofs.WorldsKept.{empty_is_world, steps_keep_worlds}

all_bytes : (bytes : List ℕ) → IsBytes bytes → AllByRecursion (λ b. b < 256) bytes
all_bytes [] h = tt
all_bytes (b ∷ bs) h = (h 0, all_bytes bs (λ i. h (suc i)))

-- what is within the grammar's bounds is in the ranges of its types
in_range : (c : Command) → IsWithinBounds c → IsInRange c
in_range (Attach name kind type_number link) h = tt
in_range (AddAddress name address prefix cloning far) h = (h.1, h.2, h.3)
in_range (RemoveAddress name address) h = tt
in_range (Open id pid protocol) h = tt
in_range (Close id) h = tt
in_range (Loopback id on) h = tt
in_range (Write id bytes) h = all_bytes bytes h.2
in_range (Read id) h = tt
in_range (Lost id) h = tt
in_range (Packet destination) h = h
in_range (Redirect asked) h = h
in_range (Losing destination) h = h
in_range (DumpSize flags) h = tt
in_range (Dump flags room) h = tt

module _ (within : ReadIsWithinBounds) where
  command_in_range : (line : Option (List ℕ)) (c : Command) → command_in line ≡ Some c → IsInRange c
  command_in_range None c is = absurd (cc)
  command_in_range (Some line) c is = in_range c (within line c is)

  answer_keeps : (old : World) (line : Option (List ℕ)) (response : Result Answer Bad) (new : World) → IsWorld old
      → Responds old line response new → IsWorld new
  answer_keeps old line (Ok answer) new h (c, is, step) =
      steps_keep_worlds old c answer new h (command_in_range line c is) step
  answer_keeps old line (Err bad) new h (none, same) = subst IsWorld (sym same) h

  answers_keep : (old : World) (lines : List (Option (List ℕ))) (text : List ℕ) (new : World) → IsWorld old
      → Answered old lines text new → IsWorld new
  answers_keep old [] text new h (none, same) = subst IsWorld (sym same) h
  answers_keep old (line ∷ lines) text new h (response, next, rest, responds, whole, more) =
      answers_keep next lines rest new (answer_keeps old line response next h responds) more

  pub scripts_lead : ScriptsLeadToWorlds
  scripts_lead script text last answered =
      answers_keep empty_world (answered_lines script) text last empty_is_world answered
