-- What a call without a world answers, which gives a message of one system in the layout of another.
use Rattle.std.specs.Prelude.{ℕ, ◌==◌, if◌then◌else◌, List, length, Option, Some, None, Result, Ok, Err}
use Rattle.event_file.specs.Given.{given}
use Rattle.sock_addrs.specs.Errno.{errno_number}
use Rattle.sock_addrs.specs.declared.errno.Errno.TheVariants.{EINVAL}
use Rattle.route_layouts.specs.Conversion.{counterpart}
use Rattle.route_layouts.specs.Systems.{layout_of}
use Rattle.route_layouts.specs.declared.fault.Fault.{Fault}
use Rattle.route_layouts.specs.declared.fault.Fault.TheVariants as fault
use Rattle.route_layouts.specs.declared.layout.System.{System}
use Rattle.route_layouts.specs.declared.layout.System.TheVariants as system
use Rattle.hoiskend.specs.Shown.{code_by_room}

-- the systems by their numbers
abbrev pub system_numbered : ℕ → Option System
system_numbered n =
    if n == 0 then Some system.Bsd44
    else if n == 1 then Some system.FreeBsd
    else if n == 2 then Some system.OpenBsd
    else if n == 3 then Some system.NetBsd
    else if n == 4 then Some system.Darwin
    else None

-- the codes of the faults, behind that of a line which the grammar doesn't have
abbrev pub code_of_fault : Fault → ℕ
code_of_fault fault.Kind = 257
code_of_fault fault.Length = 258
code_of_fault fault.Version = 259
code_of_fault fault.Overrun = 260
code_of_fault fault.Wide = 261

-- a counterpart, or the code for which there is none
abbrev pub or_code : Result (List ℕ) Fault → Result (List ℕ) ℕ
or_code (Ok new) = Ok new
or_code (Err why) = Err (code_of_fault why)

abbrev pub between : Option System → Option System → List ℕ → Result (List ℕ) ℕ
between (Some from) (Some to) m = or_code (counterpart (layout_of from) (layout_of to) m)
between (Some from) None m = Err (errno_number EINVAL)
between None to m = Err (errno_number EINVAL)

-- the message of one system, by its number, in the layout of another
abbrev pub conversion : ℕ → ℕ → List ℕ → Result (List ℕ) ℕ
conversion from to m = between (system_numbered from) (system_numbered to) m

-- what the call answers, and what it leaves in the room and the size that were there
abbrev pub code_of : Result (List ℕ) ℕ → ℕ → ℕ
code_of (Ok new) room = code_by_room new room
code_of (Err code) room = code

abbrev pub given_by : Result (List ℕ) ℕ → List ℕ → List ℕ
given_by (Ok new) room = given new room
given_by (Err code) room = room

abbrev pub size_by : Result (List ℕ) ℕ → ℕ → ℕ
size_by (Ok new) size = length new
size_by (Err code) size = size
