use Rattle.std.proofs.Common.{◌≡◌, ℕ, List, Option, false, subst}
use Rattle.std.specs.Prelude.{IfSome}
use Rattle.std.specs.Io.KnownBytes.{Appends}
use Rattle.std.proofs.KnownBytes.{Consumes-whole}
use Rattle.program_ends.specs.declared.outcome.Outcome.{Outcome}
use Rattle.program_ends.specs.declared.outcome.Outcome.TheVariants.{Done}
use Rattle.event_file.specs.Runs.{IsUndisturbed, OthersLeaveTheText}
use Rattle.event_file.specs.Transcript.{IsTranscript}
use Rattle.route_main.specs.Ends.{AnsweredAll, Ends, EndsCounted}
use Rattle.route_main.proofs.EndsLemmas.{computed_of_all, computed_of_counted, ends_of_counted, refused_of_counted, transcript_of_all}
use Rattle.route_main.proofs.run.run.Goals as goal

-- no listener disturbs another in what a run wrote that was done
undisturbed_of_all : OthersLeaveTheText → (outcome : Outcome) (before after old new : Option (List ℕ)) → Ends outcome before after old new → outcome ≡ Done
    → IfSome before (λ script. (text : List ℕ) × Appends old new text × IsTranscript script text × IsUndisturbed script text)
undisturbed_of_all law outcome before after old new p is =
    let q : AnsweredAll IsTranscript before after old new false = subst (λ (o : Outcome). Ends o before after old new) is p in
    Consumes-whole before after q.read (λ script. (text : List ℕ) × Appends old new text × IsTranscript script text × IsUndisturbed script text) q.consumes q.all
    (q.written, q.appends, q.transcript, law q.read q.written q.bad q.transcript)

pub returns-clause-ends : goal.returns-clause-ends
returns-clause-ends g c =
    ends_of_counted c.each_refusal_is_counted.ensures.transcript c.answer_script.result
    (g.R.Read.remaining c.args.reader.now.inner) (g.R.Read.remaining c.answer_script.new.reader.inner)
    (g.W.Write.contents c.args.writer.now.inner) (g.W.Write.contents c.answer_script.new.writer.inner)
    c.new.new.memory c.answer_script.new.memory c.answer_script.ensures.counted

pub returns-clause-transcript : goal.returns-clause-transcript
returns-clause-transcript g c =
    transcript_of_all c.answer_script.result
    (g.R.Read.remaining c.args.reader.now.inner) (g.R.Read.remaining c.answer_script.new.reader.inner)
    (g.W.Write.contents c.args.writer.now.inner) (g.W.Write.contents c.answer_script.new.writer.inner)
    (returns-clause-ends g c)

pub returns-clause-undisturbed : goal.returns-clause-undisturbed
returns-clause-undisturbed g c =
    undisturbed_of_all c.others_leave_the_text.ensures c.answer_script.result
    (g.R.Read.remaining c.args.reader.now.inner) (g.R.Read.remaining c.answer_script.new.reader.inner)
    (g.W.Write.contents c.args.writer.now.inner) (g.W.Write.contents c.answer_script.new.writer.inner)
    (returns-clause-ends g c)

pub returns-clause-short : goal.returns-clause-short
returns-clause-short g c = λ rose.
    let before = g.R.Read.remaining c.args.reader.now.inner in
    let after = g.R.Read.remaining c.answer_script.new.reader.inner in
    let old = g.W.Write.contents c.args.writer.now.inner in
    let new = g.W.Write.contents c.answer_script.new.writer.inner in
    refused_of_counted c.each_refusal_is_counted.ensures.each c.answer_script.result before after old new c.args.memory.now c.answer_script.new.memory
    (subst (λ (n : ℕ). EndsCounted c.answer_script.result before after old new n c.answer_script.new.memory) c.in-Ok.ensures.counted c.answer_script.ensures.counted)
    rose

pub returns-clause-computed : goal.returns-clause-computed
returns-clause-computed g c = λ stands.
    let before = g.R.Read.remaining c.args.reader.now.inner in
    let after = g.R.Read.remaining c.answer_script.new.reader.inner in
    let old = g.W.Write.contents c.args.writer.now.inner in
    let new = g.W.Write.contents c.answer_script.new.writer.inner in
    computed_of_counted c.each_refusal_is_counted.ensures.unrefused c.computed_has_memory.ensures c.answer_script.result before after old new
    c.args.memory.now c.answer_script.new.memory
    (subst (λ (n : ℕ). EndsCounted c.answer_script.result before after old new n c.answer_script.new.memory) c.in-Ok.ensures.counted c.answer_script.ensures.counted)
    stands

pub returns-clause-exact : goal.returns-clause-exact
returns-clause-exact g c = λ stands.
    computed_of_all c.answer_script.result
    (g.R.Read.remaining c.args.reader.now.inner) (g.R.Read.remaining c.answer_script.new.reader.inner)
    (g.W.Write.contents c.args.writer.now.inner) (g.W.Write.contents c.answer_script.new.writer.inner)
    (returns-clause-computed g c stands)
