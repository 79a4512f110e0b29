-- What a line changes beside the world.
use Rattle.std.proofs.Common.{◌≡◌, ◌∙◌, ℕ, false, List, [], ◌∷◌, ◌++◌, sym, ap, append-nil}
use Rattle.std.specs.Prelude.{if◌then◌else◌}
use Rattle.event_file.specs.Counts.{one_more}
use Rattle.lab_main.specs.Telling.{State, is_bad, is_quit}
use Rattle.lab_main.specs.Turns.{ComesTo, Took}
use Rattle.lab_main.specs.declared.answering.Turn.{Turn}
use Rattle.lab_main.specs.declared.answering.Turn.TheVariants.{On, Bad, Quit}

pub world_stays : (turn : Turn) (s t : State) → Took turn s t → t.world ≡ s.world
world_stays On s t is = ap (λ x. x.world) is
world_stays Bad s t is = ap (λ x. x.world) is
world_stays Quit s t is = ap (λ x. x.world) is

pub refused_stays : (turn : Turn) (s t : State) → Took turn s t → t.refused ≡ s.refused
refused_stays On s t is = ap (λ x. x.refused) is
refused_stays Bad s t is = ap (λ x. x.refused) is
refused_stays Quit s t is = ap (λ x. x.refused) is

pub lines_taken : (turn : Turn) (s t : State) → Took turn s t → t.lines ≡ one_more s.lines
lines_taken On s t is = ap (λ x. x.lines) is
lines_taken Bad s t is = ap (λ x. x.lines) is
lines_taken Quit s t is = ap (λ x. x.lines) is

none_bad : (line : List ℕ) (s t : State) → false ≡ is_bad line → t.bad ≡ s.bad → t.bad ≡ s.bad ++ (if is_bad line then t.lines ∷ [] else [])
none_bad line s t none is = is ∙ sym (append-nil s.bad) ∙ ap (λ b. s.bad ++ (if b then t.lines ∷ [] else [])) none

pub bad_taken : (turn : Turn) (line : List ℕ) (s t : State) → ComesTo line turn → Took turn s t
    → t.bad ≡ s.bad ++ (if is_bad line then t.lines ∷ [] else [])
bad_taken On line s t comes is = none_bad line s t comes.bad (ap (λ x. x.bad) is)
bad_taken Bad line s t comes is = ap (λ x. x.bad) is ∙ ap (λ n. s.bad ++ n ∷ []) (sym (ap (λ x. x.lines) is))
    ∙ ap (λ b. s.bad ++ (if b then t.lines ∷ [] else [])) comes.bad
bad_taken Quit line s t comes is = none_bad line s t comes.bad (ap (λ x. x.bad) is)

pub over_taken : (turn : Turn) (line : List ℕ) (s t : State) → s.over ≡ false → ComesTo line turn → Took turn s t → t.over ≡ is_quit line
over_taken On line s t goes comes is = ap (λ x. x.over) is ∙ goes ∙ comes.last
over_taken Bad line s t goes comes is = ap (λ x. x.over) is ∙ goes ∙ comes.last
over_taken Quit line s t goes comes is = ap (λ x. x.over) is ∙ comes.last
