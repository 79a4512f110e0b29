-- What the end of a program is to its caller.
use Rattle.std.specs.Prelude.{ℕ, Result, Ok, Err}
use Rattle.program_ends.specs.declared.outcome.Outcome.{Outcome}
use Rattle.program_ends.specs.declared.refusal.Refusal.{Refusal}
use Rattle.program_ends.specs.Outcomes as outcomes
use Rattle.program_ends.specs.Refusals as refusals

-- the exit status of a program that ran to this outcome, or was refused
abbrev pub status_of_end : Result Outcome Refusal → ℕ
status_of_end (Ok outcome) = outcomes.status_of outcome
status_of_end (Err refusal) = refusals.status_of refusal
