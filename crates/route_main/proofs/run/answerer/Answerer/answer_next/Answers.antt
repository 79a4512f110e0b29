use Rattle.std.proofs.Common.{◌≡◌, ap, subst, length, arith, rules, true, false, Option, List, ℕ}
use Rattle.event_file.specs.Lines.{has_newline}
use Rattle.route_main.specs.Progress.{Answers, StopsWithin, answered_of, standing}
use Rattle.event_file.proofs.LineLemmas.{first_line-none}
use Rattle.route_main.proofs.ProgressLemmas.{Advances-fed, Advances-answered, Advances-whole, Breaks-answered, Breaks-whole, on_err}
use Rattle.route_main.proofs.run.answerer.Answerer.answer_next.Goals as goal

pub returns-then-not-has_ended-clause-some : goal.returns-then-not-has_ended-clause-some
returns-then-not-has_ended-clause-some g c =
    let none : has_newline c.args.bytes.now ≡ false = search rules in
    λ some. omega (arith, c.feed-taken.ensures.taken, ap length (first_line-none c.args.bytes.now none))

pub returns-then-not-has_ended-clause-ok : goal.returns-then-not-has_ended-clause-ok
returns-then-not-has_ended-clause-ok g c =
    let none : has_newline c.args.bytes.now ≡ false = search rules in
    Advances-fed (standing c.args.self.now c.args.memory.now) (g.W.Write.contents c.args.writer.now.inner) c.args.bytes.now c.feed-taken.result.0 c.args.line.now c.feed-taken.new.self
    none c.feed-taken.ensures.taken c.feed-taken.ensures.line

pub returns-in_err-answer-2-clause-err : goal.returns-in_err-answer-2-clause-err
returns-in_err-answer-2-clause-err g c =
    let has : has_newline c.args.bytes.now ≡ true = search rules in
    let stop = subst (λ (l : Option (List ℕ)). StopsWithin (standing c.args.self.now c.args.memory.now) c.answer-2.new.memory (g.W.Write.contents c.args.writer.now.inner) (g.W.Write.contents c.answer-2.new.writer.inner) (answered_of l))
    c.line.ensures.text c.in_err-answer-2.ensures.err in
    on_err c.from_residual-in_err-answer-2.result _ (Breaks-answered c.args.bytes.now c.args.line.now c.feed-taken.new.self has c.feed-taken.ensures.line stop)

pub returns-clause-ok : goal.returns-clause-ok
returns-clause-ok g c =
    let has : has_newline c.args.bytes.now ≡ true = search rules in
    let answers = subst (λ (l : Option (List ℕ)). Answers (standing c.args.self.now c.args.memory.now) (standing c.answer-2.new.self c.answer-2.new.memory) (g.W.Write.contents c.args.writer.now.inner) (g.W.Write.contents c.answer-2.new.writer.inner) (answered_of l))
    c.line.ensures.text c.in_ok-answer-2.ensures.ok in
    Advances-answered c.args.bytes.now c.feed-taken.result.0 c.args.line.now c.feed-taken.new.self c.clear.new.self has c.feed-taken.ensures.taken c.feed-taken.ensures.line c.clear.ensures answers

pub returns-in-Some-clause-ok : goal.returns-in-Some-clause-ok
returns-in-Some-clause-ok g c =
    Advances-whole c.args.bytes.now c.in-Some.taken c.args.line.now _ c.in-Some.ensures.newline c.in-Some.ensures.taken c.in-Some.ensures.empty
    c.in-Some.ensures.line c.in_ok-answer.ensures.ok

pub returns-in_err-answer-clause-err : goal.returns-in_err-answer-clause-err
returns-in_err-answer-clause-err g c =
    on_err c.from_residual.result _ (Breaks-whole c.args.bytes.now c.args.line.now _ c.in-Some.ensures.newline c.in-Some.ensures.empty
    c.in-Some.ensures.line c.in_err-answer.ensures.err)
