-- Refusals as a table in the order in which they are looked for: the first rule that holds refuses.
use Rattle.std.specs.Prelude.{Bool, List, [], ◌∷◌, Option, Some, None, Result, Ok, Err, if◌then◌else◌}

-- what is answered where something holds
pub record Rule (T : Type 0) : Type 0 where
  pub holds : Bool
  pub fault : T

abbrev pub rule : {T : Type 0} → Bool → T → Rule T
rule holds fault = record { holds = holds; fault = fault }

-- what the first rule that holds answers
abbrev pub first_fault : {T : Type 0} → List (Rule T) → Option T
first_fault [] = None
first_fault (r ∷ rs) = if r.holds then Some r.fault else first_fault rs

-- a value, unless a fault comes before it
abbrev pub unless_fault : {T F : Type 0} → Option F → T → Result T F
unless_fault None value = Ok value
unless_fault (Some fault) value = Err fault
