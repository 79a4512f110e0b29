-- Each answer that there is no memory has its cause, and where nothing has, the text is the one that the machine
-- computes.
use Rattle.std.proofs.Common.{◌≡◌, ◌≢◌, ◌≤◌, ◌∙◌, ◌+◌, ℕ, codes, List, [], ◌∷◌, Option, Some, None, Result, Ok, Err, arith, inl, inr, refl, sym, ap, subst}
use Rattle.sock_addrs.specs.declared.errno.Errno.{Errno}
use Rattle.sock_addrs.specs.declared.errno.Errno.TheVariants.{ENOBUFS, ENOMEM}
use Rattle.route_core.specs.Commands.{Command}
use Rattle.route_core.specs.RefusalLaws.{EffectsHaveMemory, LeftOutForRoom}
use Rattle.route_core.specs.Step.{Stepped, Steps, StepsCounted, effect}
use Rattle.route_core.specs.World.{World, empty_world}
use Rattle.route_core.specs.declared.answer.Answer.{Answer}
use Rattle.route_core.specs.declared.answer.Answer.TheVariants.{Done, Refused, Routed, Dropped, Size, Messages}
use Rattle.event_file.specs.Answers.{answer_text, response_text}
use Rattle.event_file.specs.Causes.{AnsweredCounted, ComputedHasMemory, ComputedIsCounted, CountedIsTranscript, EachRefusalIsCounted, RespondsCounted, UnrefusedIsComputed, refusals}
use Rattle.event_file.specs.Lines.{answered_lines}
use Rattle.event_file.specs.Transcript.{Answered, Responds, command_in, transcript_from, turn_by}
use Rattle.event_file.specs.declared.bad.Bad.{Bad}
use Rattle.event_file.proofs.MemoryLines.{HasMemory, none-refusals, none_full-answer, none_full-bad, none_full-nil, refusals-none, refusals-one, refusals-response}
use Rattle.event_file.proofs.ResponseLines.{All-both, NoneFull}
use Rattle.event_file.proofs.TranscriptLemmas.{transcript-is_computed}

-- ---- a counted transcript is a transcript

steps_of : (old : World) (c : Command) (answer : Answer) (new : World) (before after : ℕ)
    → StepsCounted old c answer new before after → Steps old c answer new
steps_of old c answer new before after (inl h) = inl h.0
steps_of old c answer new before after (inr h) = inr (h.0, h.1, h.2)

responds_of : (old : World) (line : Option (List ℕ)) (response : Result Answer Bad) (new : World) (before after : ℕ)
    → RespondsCounted old line response new before after → Responds old line response new
responds_of old line (Ok answer) new before after (c, is, steps) = (c, is, steps_of old c answer new before after steps)
responds_of old line (Err bad) new before after h = (h.0, h.1)

pub answered_of : (old : World) (lines : List (Option (List ℕ))) (text : List ℕ) (new : World) (before after : ℕ)
    → AnsweredCounted old lines text new before after → Answered old lines text new
answered_of old [] text new before after h = (h.0, h.1)
answered_of old (line ∷ lines) text new before after (response, next, mid, rest, responds, is, more) = (
  response,
  next,
  rest,
  responds_of old line response next before mid responds,
  is,
  answered_of next lines rest new mid after more,
)

pub counted_is_transcript : CountedIsTranscript
counted_is_transcript script text before after (last, answered) =
    (last, answered_of empty_world (answered_lines script) text last before after answered)

-- ---- what the machine computes stands for every count

turn_counted : (old : World) (line : Option (List ℕ)) (said : Option Command) (count : ℕ) → command_in line ≡ said
    → RespondsCounted old line (turn_by old said).response (turn_by old said).world count count
turn_counted old line None count is = (is, refl, refl)
turn_counted old line (Some command) count is = (command, is, inl (refl, refl))

pub computed_from : (lines : List (Option (List ℕ))) (old : World) (count : ℕ)
    → (last : World) × AnsweredCounted old lines (transcript_from lines old) last count count
computed_from [] old count = (old, (refl, refl, refl))
computed_from (line ∷ lines) old count =
    let turn = turn_by old (command_in line) in
    let rest = computed_from lines turn.world count in (
      rest.0,
      (
        turn.response,
        turn.world,
        count,
        transcript_from lines turn.world,
        turn_counted old line (command_in line) count refl,
        refl,
        rest.1,
      ),
    )

pub computed_is_counted : ComputedIsCounted
computed_is_counted script count = computed_from (answered_lines script) empty_world count

-- ---- the machine never says that there is no memory

has_memory : (answer : Answer) → answer ≢ Refused ENOBUFS
    → ((messages : List (List ℕ)) → (errno : Errno) → answer ≡ Messages messages (Some errno) → errno ≡ ENOMEM) → HasMemory answer
has_memory Done other leaves = tt
has_memory (Refused errno) other leaves = λ e. other (ap Refused e)
has_memory (Routed choice) other leaves = tt
has_memory (Dropped choice) other leaves = tt
has_memory (Size size) other leaves = tt
has_memory (Messages messages None) other leaves = tt
has_memory (Messages messages (Some errno)) other leaves = λ e. absurd (let left : errno ≡ ENOMEM = leaves messages errno refl in cc)

module _ (memory : EffectsHaveMemory) (room : LeftOutForRoom) where
  none_full-effect : (w : World) (c : Command) → NoneFull (answer_text (effect w c).answer)
  none_full-effect w c = none_full-answer (effect w c).answer (has_memory (effect w c).answer (memory w c) (room w c))

  none_full-turn : (w : World) (said : Option Command) → NoneFull (response_text (turn_by w said).response)
  none_full-turn w None = none_full-bad
  none_full-turn w (Some c) = none_full-effect w c

  none_full-computed : (lines : List (Option (List ℕ))) (w : World) → NoneFull (transcript_from lines w)
  none_full-computed [] w = none_full-nil
  none_full-computed (line ∷ lines) w =
      let turn = turn_by w (command_in line) in
      All-both (λ line. line ≢ codes "err 55") turn.response (transcript_from lines turn.world)
      (none_full-turn w (command_in line)) (none_full-computed lines turn.world)

  pub computed_has_memory : ComputedHasMemory
  computed_has_memory script = none_full-computed (answered_lines script) empty_world

  -- ---- the count rises with each line that says so

  -- for so many lines that say so, and for nothing else
  record Counts (lines before after : ℕ) : Type 0 where
    rises : before + lines ≤ after
    stands : lines ≡ 0 → after ≡ before

  step_counts : (old : World) (c : Command) (answer : Answer) (new : World) (before after : ℕ)
      → StepsCounted old c answer new before after → Counts (refusals (answer_text answer)) before after
  step_counts old c answer new before after (inl h) =
      let none : NoneFull (answer_text answer) =
      subst (λ (a : Answer). NoneFull (answer_text a)) (ap (λ (s : Stepped). s.answer) h.0) (none_full-effect old c) in
      let zero = refusals-none (answer_text answer) none in
      record { rises = omega (arith, zero, h.1); stands = λ _. h.1 }
  step_counts old c answer new before after (inr h) =
      let one : refusals (answer_text answer) ≡ 1 = ap (λ (a : Answer). refusals (answer_text a)) h.1 ∙ refusals-one in
      record { rises = omega (arith, one, h.3); stands = λ none. absurd (omega (arith, one, none)) }

  response_counts : (old : World) (line : Option (List ℕ)) (response : Result Answer Bad) (new : World) (before after : ℕ)
      → RespondsCounted old line response new before after → Counts (refusals (response_text response)) before after
  response_counts old line (Ok answer) new before after (c, is, steps) = step_counts old c answer new before after steps
  response_counts old line (Err bad) new before after h =
      let zero = refusals-none (codes "bad\n") none_full-bad in
      record { rises = omega (arith, zero, h.2); stands = λ _. h.2 }

  answers_count : (old : World) (lines : List (Option (List ℕ))) (text : List ℕ) (new : World) (before after : ℕ)
      → AnsweredCounted old lines text new before after → Counts (refusals text) before after
  answers_count old [] text new before after h =
      let zero = refusals-none text (subst NoneFull (sym h.0) none_full-nil) in
      record { rises = omega (arith, zero, h.2); stands = λ _. h.2 }
  answers_count old (line ∷ lines) text new before after (response, next, mid, rest, responds, is, more) =
      let first = response_counts old line response next before mid responds in
      let behind = answers_count next lines rest new mid after more in
      let sum = ap refusals is ∙ refusals-response response rest in
      record {
        rises = omega (arith, sum, first.rises, behind.rises);
        stands = λ none. behind.stands (omega (arith, sum, none)) ∙ first.stands (omega (arith, sum, none));
      }

  pub each_refusal_is_counted : EachRefusalIsCounted
  each_refusal_is_counted script text before after (last, answered) =
      let counts = answers_count empty_world (answered_lines script) text last before after answered in
      (counts.rises, counts.stands)

  pub unrefused_is_computed : UnrefusedIsComputed
  unrefused_is_computed script text before after counted stands =
      let rises = (each_refusal_is_counted script text before after counted).0 in
      transcript-is_computed script text (counted_is_transcript script text before after counted)
      (none-refusals text (omega (arith, rises, stands)))
