-- The computed transcript is one, and the only one where memory is never refused.
use Rattle.std.proofs.Common.{◌≡◌, ℕ, List, [], ◌∷◌, ◌++◌, ◌∙◌, Option, Some, None, Ok, Err, refl, sym, ap, subst, inl, inr}
use Rattle.route_core.specs.Commands.{Command}
use Rattle.event_file.specs.Lines.{answered_lines}
use Rattle.event_file.specs.Transcript.{Answered, IsTranscript, Responds, ResponseIsComputed, TranscriptIsComputed, command_in, transcript_from, transcript_of, turn_by}
use Rattle.event_file.specs.Answers.{response_text}
use Rattle.event_file.proofs.ResponseLines.{NoneFull, none_full-first, none_full-rest}
use Rattle.route_core.specs.Step.{Stepped}
use Rattle.route_core.specs.World.{World, empty_world}

turn_responses : (old : World) (line : Option (List ℕ)) (said : Option Command) → command_in line ≡ said → Responds old line (turn_by old said).response (turn_by old said).world
turn_responses old line None is = (is, refl)
turn_responses old line (Some command) is = (command, is, inl refl)

-- the transcript of a run in which nothing is refused for want of memory is a transcript, whatever world it begins in
pub transcript_from-is : (lines : List (Option (List ℕ))) (old : World) → (last : World) × Answered old lines (transcript_from lines old) last
transcript_from-is [] old = (old, (refl, refl))
transcript_from-is (line ∷ lines) old =
    let turn = turn_by old (command_in line) in
    let rest = transcript_from-is lines turn.world in
    (rest.0, (turn.response, turn.world, transcript_from lines turn.world, turn_responses old line (command_in line) refl, refl, rest.1))

-- so what a run writes in which nothing is refused is a transcript
pub transcript_of-is : (script : List ℕ) → IsTranscript script (transcript_of script)
transcript_of-is script = transcript_from-is (answered_lines script) empty_world

pub response-is_computed : ResponseIsComputed
response-is_computed old line (Ok answer) next (command, said, inl is) full =
    subst (λ (o : Option Command). (Ok answer ≡ (turn_by old o).response) × (next ≡ (turn_by old o).world)) (sym said)
    (ap (λ (s : Stepped). Ok s.answer) (sym is), ap (λ (s : Stepped). s.world) (sym is))
response-is_computed old line (Ok answer) next (command, said, inr (takes, refused, same)) full = absurd (full (ap Ok refused))
response-is_computed old line (Err bad) next (said, same) full =
    subst (λ (o : Option Command). (Err bad ≡ (turn_by old o).response) × (next ≡ (turn_by old o).world)) (sym said) (refl, same)

-- an answered run in whose text no line says that memory was refused has the computed text
answered-is_computed : (lines : List (Option (List ℕ))) (old : World) (text : List ℕ) (last : World) → Answered old lines text last → NoneFull text → text ≡ transcript_from lines old
answered-is_computed [] old text last (empty, same) none = empty
answered-is_computed (line ∷ lines) old text last (response, next, rest, responds, is, more) none =
    let here = subst NoneFull is none in
    let turn = turn_by old (command_in line) in
    let (same, world) = response-is_computed old line response next responds (none_full-first response rest here) in
    let behind = answered-is_computed lines next rest last more (none_full-rest response rest here) in
    is ∙ ap (λ r. response_text r ++ rest) same ∙ ap (λ t. response_text turn.response ++ t) (behind ∙ ap (transcript_from lines) world)

pub transcript-is_computed : TranscriptIsComputed
transcript-is_computed script text (last, answered) none = answered-is_computed (answered_lines script) empty_world text last answered none
