-- What a line comes to, beside what is told of it.
use Rattle.std.specs.Prelude.{◌≡◌, ℕ, Bool, true, false, List, [], ◌∷◌, ◌++◌}
use Rattle.event_file.specs.Counts.{one_more}
use Rattle.lab_main.specs.Telling.{State, is_bad, is_quit}
use Rattle.lab_main.specs.declared.answering.Turn.{Turn}
use Rattle.lab_main.specs.declared.answering.Turn.TheVariants.{On, Bad, Quit}

abbrev pub is_bad_turn : Turn → Bool
is_bad_turn On = false
is_bad_turn Bad = true
is_bad_turn Quit = false

abbrev pub is_last_turn : Turn → Bool
is_last_turn On = false
is_last_turn Bad = false
is_last_turn Quit = true

-- a line comes to this
pub record ComesTo (line : List ℕ) (turn : Turn) : Type 0 where
  pub bad : is_bad_turn turn ≡ is_bad line
  pub last : is_last_turn turn ≡ is_quit line

-- the world stays, and what it was refused
abbrev pub taken : Turn → State → State
taken On s = record s { lines = one_more s.lines }
taken Bad s = record s { lines = one_more s.lines; bad = s.bad ++ one_more s.lines ∷ [] }
taken Quit s = record s { lines = one_more s.lines; over = true }

abbrev pub Took : Turn → State → State → Type 0
Took turn old new = new ≡ taken turn old
