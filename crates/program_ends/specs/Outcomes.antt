-- What a run's outcome is to the program's caller.
use Rattle.std.specs.Prelude.{ℕ, List, codes}
use Rattle.program_ends.specs.declared.outcome.Outcome.{Outcome}
use Rattle.program_ends.specs.declared.outcome.Outcome.TheVariants.{Done, BadLine, ReadFault, WriteFault, NoMemory}

-- the exit status
abbrev pub status_of : Outcome → ℕ
status_of Done = 0
status_of BadLine = 3
status_of ReadFault = 4
status_of WriteFault = 5
status_of NoMemory = 6

-- the text of standard error
abbrev pub text_of : Outcome → List ℕ
text_of Done = codes ""
text_of BadLine = codes "bad line"
text_of ReadFault = codes "read fault"
text_of WriteFault = codes "write fault"
text_of NoMemory = codes "no memory"
