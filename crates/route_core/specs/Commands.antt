-- A command, the bytes of a write being seen as their list, wherever they lie.
use Rattle.std.specs.Prelude.{ℕ, Bool, true, false, List}
use Rattle.route_core.specs.declared.command.Command.{Command as CommandOf}
use Rattle.route_core.specs.declared.command.Command.TheVariants.{Read}

abbrev pub Command : Type 0
Command = CommandOf (List ℕ)

-- the command reads a socket
abbrev pub is_read : Command → Bool
is_read (Read id) = true
is_read c = false
