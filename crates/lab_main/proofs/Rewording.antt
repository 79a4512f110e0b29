-- The replies whose words are told of lines, and whose bytes are a transcript.
use Rattle.std.proofs.Common.{◌≡◌, ◌∙◌, ◌++◌, ℕ, Bool, true, false, not, List, [], ◌∷◌, Option, Some, None, Result, Ok, Err, refl, sym, ap, subst, append-nil}
use Rattle.std.specs.Prelude.{flat_map, if◌then◌else◌, MatchBool, nat_lt, cond, length}
use Rattle.event_file.specs.Counts.{one_more}
use Rattle.event_file.specs.Grammar.{command_of, said_by}
use Rattle.event_file.specs.Lines.{is_passed, kept, most_line_bytes}
use Rattle.event_file.specs.Transcript.{Answered, Responds, command_in}
use Rattle.event_file.specs.Words.{parted_by}
use Rattle.event_file.specs.declared.bad.Bad.{Bad}
use Rattle.plain_lines.specs.PlainLines.{plain_of}
use Rattle.route_core.specs.Commands.{Command}
use Rattle.route_core.specs.World.{World}
use Rattle.route_core.specs.declared.answer.Answer.{Answer}
use Rattle.lab_main.specs.InWords.{Fits, Replied, Reply, given_of, is_answered, own_words, reply_words, response_bytes, told_text, transcript_text, words_by}
use Rattle.lab_main.specs.Questions.{is_question}
use Rattle.lab_main.specs.Telling.{Obeys, ObeysBy, Says, State, Tells, Told, answer_to, plainly, shown}
use Rattle.lab_main.specs.declared.shows.Shows.{Shows}
use Rattle.lab_main.proofs.Running.{step_of}

-- a line says the command that it says as it is looked at
kept_says : (line : List ℕ) → command_in (kept line) ≡ command_of line
kept_says line = elim (nat_lt most_line_bytes (length line)) as (λ long. nat_lt most_line_bytes (length line) ≡ long → command_in (cond long None (Some line)) ≡ command_of line)
    [ true ↦ λ e. ap (λ long. if long then None else said_by (parted_by 32 line)) (sym e) | false ↦ λ e. refl ] refl

-- ---- one line

-- a reply to a line, in whose words it was told
abbrev ReplyTo : List ℕ → List ℕ → World → World → Type 0
ReplyTo line body old new = (r : Reply) × (r.before ≡ old) × (r.after ≡ new) × Fits line (is_answered line) r
    × (body ≡ own_words line r.before ++ reply_words line r)

responded : (line front body : List ℕ) (old new : World) (c : Option Command) (before after : ℕ) → command_of line ≡ c
    → ObeysBy old line c front body new before after
    → (response : Result Answer Bad) × Responds old (kept line) response new × (body ≡ front ++ words_by line c (Some response) new)
responded line front body old new None before after says (is, stays, count) =
    (Err (record {}), (kept_says line ∙ says, stays), is)
responded line front body old new (Some c) before after says (answer, step, is) =
    (Ok answer, (c, kept_says line ∙ says, step_of old new c answer before after step), is)

abbrev own_by : List ℕ → World → Bool → Bool → List ℕ
own_by line w asks passed = if asks then answer_to line w else if passed then [] else plainly line

-- nothing is responded
silent : (line body : List ℕ) (old new : World) (before after : ℕ) (told : List ℕ) → is_answered line ≡ false → own_words line old ≡ told
    → Says told old body new before after → ReplyTo line body old new
silent line body old new before after told none own says =
    let r : Reply = record { before = old; after = new; response = None } in
    let fits : Fits line (is_answered line) r = subst (λ b. Fits line b r) (sym none) (refl, says.kept) in
    (r, refl, refl, fits, says.body_is ∙ sym own ∙ sym (append-nil (own_words line old)))

-- a response is told
spoken : (line body : List ℕ) (old new : World) → is_answered line ≡ true → own_words line old ≡ plainly line
    → (response : Result Answer Bad) × Responds old (kept (plain_of line)) response new
    × (body ≡ plainly line ++ words_by (plain_of line) (command_of (plain_of line)) (Some response) new)
    → ReplyTo line body old new
spoken line body old new some own (response, responds, is) =
    let r : Reply = record { before = old; after = new; response = Some response } in
    let fits : Fits line (is_answered line) r = subst (λ b. Fits line b r) (sym some) (response, refl, responds) in
    (r, refl, refl, fits, is ∙ ap (λ x. x ++ reply_words line r) (sym own))

replied_by : (asks passed : Bool) (line body : List ℕ) (old new : World) (before after : ℕ) → is_question line ≡ asks → is_passed (kept line) ≡ passed
    → MatchBool asks (Says (answer_to line old) old body new before after)
    (MatchBool passed (Says [] old body new before after) (Obeys old (plain_of line) (plainly line) body new before after))
    → ReplyTo line body old new
replied_by true passed line body old new before after a p says =
    silent line body old new before after (answer_to line old)
    (ap (λ b. if b then false else not (is_passed (kept line))) a) (ap (λ b. own_by line old b (is_passed (kept line))) a) says
replied_by false true line body old new before after a p says =
    silent line body old new before after []
    (ap (λ b. if b then false else not (is_passed (kept line))) a ∙ ap not p)
    (ap (λ b. own_by line old b (is_passed (kept line))) a ∙ ap (own_by line old false) p) says
replied_by false false line body old new before after a p obeys =
    spoken line body old new
    (ap (λ b. if b then false else not (is_passed (kept line))) a ∙ ap not p)
    (ap (λ b. own_by line old b (is_passed (kept line))) a ∙ ap (own_by line old false) p)
    (responded (plain_of line) (plainly line) body old new (command_of (plain_of line)) before after refl obeys)

-- ---- lines one after another

-- a response before a transcript is one
answered_then : (answered : Bool) (line text : List ℕ) (r : Reply) (more : List (Option (List ℕ))) (new : World) → Fits line answered r
    → Answered r.after more text new
    → Answered r.before ((if answered then kept (plain_of line) ∷ [] else []) ++ more) (response_bytes r.response ++ text) new
answered_then true line text r more new (response, is, responds) rest =
    (response, r.after, text, responds, ap (λ o. response_bytes o ++ text) is, rest)
answered_then false line text r more new (none, stays) rest =
    subst (λ x. Answered r.before more x new) (sym (ap (λ o. response_bytes o ++ text) none)) (subst (λ w. Answered w more text new) stays rest)

-- the replies to lines, and what they come to
abbrev Reworded : Shows → World → ℕ → World → List (List ℕ) → List ℕ → Type 0
Reworded o old count new lines text = (replies : List Reply) × Replied old lines replies new × (text ≡ told_text o count lines replies)
    × Answered old (flat_map given_of lines) (transcript_text replies) new

first_then : (o : Shows) (old mid new : State) (line first rest text : List ℕ) (lines : List (List ℕ)) → (tells : Tells o old line first mid) → text ≡ first ++ rest
    → ReplyTo line tells.body old.world mid.world
    → Reworded o mid.world mid.lines new.world lines rest
    → Reworded o old.world old.lines new.world (line ∷ lines) text
first_then o old mid new line first rest text lines tells is (r, before, after, fits, body) (replies, replied, same, answered) =
    let told : List ℕ = own_words line r.before ++ reply_words line r in
    let here : first ≡ shown o (one_more old.lines) line told =
    tells.text_is ∙ ap (λ b. shown o mid.lines line b) body ∙ ap (λ n. shown o n line told) tells.lines_are in
    let later : rest ≡ told_text o (one_more old.lines) lines replies =
    same ∙ ap (λ n. told_text o n lines replies) tells.lines_are in (
      r ∷ replies,
      (before, fits, subst (λ w. Replied w lines replies new.world) (sym after) replied),
      is ∙ ap (λ x. x ++ rest) here ∙ ap (λ x. shown o (one_more old.lines) line told ++ x) later,
      subst (λ w. Answered w (given_of line ++ flat_map given_of lines) (response_bytes r.response ++ transcript_text replies) new.world) before
          (answered_then (is_answered line) line (transcript_text replies) r (flat_map given_of lines) new.world fits
          (subst (λ w. Answered w (flat_map given_of lines) (transcript_text replies) new.world) (sym after) answered)),
    )

pub reworded : (o : Shows) (old new : State) (lines : List (List ℕ)) (text : List ℕ) → Told o old lines text new
    → Reworded o old.world old.lines new.world lines text
reworded o old new [] text (none, is) = ([], ap (λ p. p.world) is, none, (refl, ap (λ p. p.world) is))
reworded o old new (line ∷ lines) text (mid, first, rest, tells, is, told) =
    first_then o old mid new line first rest text lines tells is
    (replied_by (is_question line) (is_passed (kept line)) line tells.body old.world mid.world old.refused mid.refused refl refl tells.answers)
    (reworded o mid new lines rest told)
