-- What the ways to end say of a whole run.
use Rattle.std.proofs.Common.{◌≡◌, ◌≢◌, ◌<◌, ◌≤◌, ℕ, Bool, true, false, List, ◌++◌, Option, sym, subst, inl, inr, arith}
use Rattle.std.specs.Prelude.{◌⊎◌, IfSome}
use Rattle.std.specs.Io.KnownBytes.{Appends, IsAtEnd}
use Rattle.std.proofs.KnownBytes.{Consumes-whole}
use Rattle.program_ends.specs.declared.outcome.Outcome.{Outcome}
use Rattle.program_ends.specs.declared.outcome.Outcome.TheVariants.{Done, BadLine, ReadFault, WriteFault, NoMemory}
use Rattle.event_file.specs.Causes.{ComputedHasMemory, CountedIsTranscript, EachRefusalIsCounted, IsComputed, IsTranscriptCounted, TextHasMemory, UnrefusedIsComputed, refusals}
use Rattle.event_file.specs.Lines.{ended_lines}
use Rattle.event_file.specs.Transcript.{IsTranscript, transcript_of}
use Rattle.route_main.specs.Ends.{AnsweredAll, WroteFrontOf, Ends, EndsBy, EndsComputed, EndsCounted, IsAnswered}

-- ---- what a whole run says

pub transcript_of_all : (outcome : Outcome) (before after old new : Option (List ℕ)) → Ends outcome before after old new → IsAnswered outcome
    → IfSome before (λ script. (text : List ℕ) × Appends old new text × IsTranscript script text)
transcript_of_all Done before after old new p is = Consumes-whole before after p.read _ p.consumes p.all (p.written, p.appends, p.transcript)
transcript_of_all BadLine before after old new p is = Consumes-whole before after p.read _ p.consumes p.all (p.written, p.appends, p.transcript)
transcript_of_all ReadFault before after old new p is = absurd is
transcript_of_all WriteFault before after old new p is = absurd is
transcript_of_all NoMemory before after old new p is = absurd is

-- ---- what memory that was refused leaves

-- what is said of a text by one relation is said by another that follows
Front-map : (P Q : List ℕ → List ℕ → Type 0) (script : List ℕ) (old new : Option (List ℕ)) → ((script text : List ℕ) → P script text → Q script text)
    → WroteFrontOf P script old new → WroteFrontOf Q script old new
Front-map P Q script old new f w = record {
  written = w.written;
  unwritten = w.unwritten;
  appends = w.appends;
  transcript = f script (w.written ++ w.unwritten) w.transcript;
}

Fronts-map : (P Q : List ℕ → List ℕ → Type 0) (read : List ℕ) (after old new : Option (List ℕ)) → ((script text : List ℕ) → P script text → Q script text)
    → (WroteFrontOf P (ended_lines read) old new ⊎ (IsAtEnd after × WroteFrontOf P read old new))
    → (WroteFrontOf Q (ended_lines read) old new ⊎ (IsAtEnd after × WroteFrontOf Q read old new))
Fronts-map P Q read after old new f (inl w) = inl (Front-map P Q (ended_lines read) old new f w)
Fronts-map P Q read after old new f (inr h) = inr (h.0, Front-map P Q read old new f h.1)

All-map : (P Q : List ℕ → List ℕ → Type 0) (before after old new : Option (List ℕ)) (bad : Bool) → ((script text : List ℕ) → P script text → Q script text)
    → AnsweredAll P before after old new bad → AnsweredAll Q before after old new bad
All-map P Q before after old new bad f w = record {
  read = w.read;
  written = w.written;
  consumes = w.consumes;
  all = w.all;
  appends = w.appends;
  transcript = f w.read w.written w.transcript;
  bad = w.bad;
}

Ends-map : (P Q : List ℕ → List ℕ → Type 0) (outcome : Outcome) (before after old new : Option (List ℕ))
    → ((script text : List ℕ) → P script text → Q script text) → EndsBy P outcome before after old new → EndsBy Q outcome before after old new
Ends-map P Q Done before after old new f w = All-map P Q before after old new false f w
Ends-map P Q BadLine before after old new f w = All-map P Q before after old new true f w
Ends-map P Q ReadFault before after old new f w = record {
  read = w.read;
  written = w.written;
  consumes = w.consumes;
  appends = w.appends;
  transcript = f (ended_lines w.read) w.written w.transcript;
}
Ends-map P Q WriteFault before after old new f w = record {
  read = w.read;
  consumes = w.consumes;
  front = Fronts-map P Q w.read after old new f w.front;
}
Ends-map P Q NoMemory before after old new f w = w

pub ends_of_counted : CountedIsTranscript → (outcome : Outcome) (before after old new : Option (List ℕ)) (low high : ℕ)
    → EndsCounted outcome before after old new low high → Ends outcome before after old new
ends_of_counted law outcome before after old new low high w =
    Ends-map (λ script text. IsTranscriptCounted script text low high) IsTranscript outcome before after old new
    (λ script text is. law script text low high is) w

-- where none was, it is what the machine computes
pub computed_of_counted : UnrefusedIsComputed → ComputedHasMemory → (outcome : Outcome) (before after old new : Option (List ℕ)) (low high : ℕ)
    → EndsCounted outcome before after old new low high → high ≡ low → EndsComputed outcome before after old new
computed_of_counted law memory outcome before after old new low high w stands =
    Ends-map (λ script text. IsTranscriptCounted script text low high) IsComputed outcome before after old new
    (λ script text is. (
    let same = law script text low high is stands in
    (same, subst TextHasMemory (sym same) (memory script))))
    w

-- where some was, some answer says so
pub refused_of_counted : EachRefusalIsCounted → (outcome : Outcome) (before after old new : Option (List ℕ)) (low high : ℕ)
    → EndsCounted outcome before after old new low high → low < high → EndsBy (λ script text. 1 ≤ refusals text) outcome before after old new
refused_of_counted law outcome before after old new low high w rose =
    Ends-map (λ script text. IsTranscriptCounted script text low high) (λ script text. 1 ≤ refusals text) outcome before after old new
    (λ script text is. (
    let counts = law script text low high is in
    let some : refusals text ≢ 0 = λ none. absurd (omega (arith, counts.1 none, rose)) in
    omega (arith, some)))
    w

-- and a whole run that was answered wrote just that
pub computed_of_all : (outcome : Outcome) (before after old new : Option (List ℕ)) → EndsComputed outcome before after old new → IsAnswered outcome
    → IfSome before (λ script. Appends old new (transcript_of script))
computed_of_all Done before after old new p is = Consumes-whole before after p.read _ p.consumes p.all (subst (Appends old new) p.transcript.0 p.appends)
computed_of_all BadLine before after old new p is = Consumes-whole before after p.read _ p.consumes p.all (subst (Appends old new) p.transcript.0 p.appends)
computed_of_all ReadFault before after old new p is = absurd is
computed_of_all WriteFault before after old new p is = absurd is
computed_of_all NoMemory before after old new p is = absurd is
