-- How telling a line broke off.
use Rattle.std.specs.Prelude.{◌≡◌, ℕ, List, Option}
use Rattle.event_file.specs.Counts.{Counts}
use Rattle.event_file.specs.Output.{WroteFront}
use Rattle.lab_main.specs.Telling.{State, Tells}
use Rattle.lab_main.specs.declared.shows.Shows.{Shows}
use Rattle.line_reader.specs.declared.fault.Fault.{Fault}
use Rattle.line_reader.specs.declared.fault.Fault.TheVariants as fault

-- the writer stopped within what is told of it; or there was no memory for that, and nothing was written
abbrev pub Broke : {W : Type 0} → (W → Option (List ℕ)) → Shows → Fault → State → List ℕ → State → Counts W → Counts W
    → Type 0
Broke contents o fault.Read from line to old new = ⊥
Broke contents o fault.Write from line to old new =
    (said : List ℕ) × Tells o from line said to × WroteFront contents old new said
Broke contents o fault.NoMemory from line to old new = new ≡ old
