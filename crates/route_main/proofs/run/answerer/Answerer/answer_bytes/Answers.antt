use Rattle.std.proofs.Common.{ap, subst, sym, length, length-drop, take, take-append-drop, arith, List, ℕ}
use Rattle.std.proofs.lemmas.List.{take_rest}
use Rattle.std.proofs.Math.Seq.{take-add}
use Rattle.route_main.specs.Progress.{Advances, Breaks, standing}
use Rattle.route_main.proofs.ProgressLemmas.{Advances-then, Breaks-then, on_err}
use Rattle.route_main.proofs.run.answerer.Answerer.answer_bytes.Goals as goal

pub returns-in_err-taken-clause-err : goal.returns-in_err-taken-clause-err
returns-in_err-taken-clause-err g c =
    let at = c.loop-at.at in
    let bytes = c.args.bytes.now in
    let stop = subst (λ (x : List ℕ). Breaks (standing c.loop-at.self c.loop-at.memory) c.answer_next.new.memory (g.W.Write.contents c.loop-at.writer.inner) (g.W.Write.contents c.answer_next.new.writer.inner) x c.loop-at.line)
    (take_rest bytes at) c.in_err-taken.ensures.err in
    on_err c.from_residual.result _ (subst (λ (x : List ℕ). Breaks (standing c.args.self.now c.args.memory.now) c.answer_next.new.memory (g.W.Write.contents c.args.writer.now.inner) (g.W.Write.contents c.answer_next.new.writer.inner) x c.args.line.now)
    (take-append-drop at bytes) (Breaks-then c.loop-at.invariant.advances stop))

pub loop-at-preserved : goal.loop-at-preserved
loop-at-preserved g c =
    let at = c.loop-at.at in
    let taken = c.in_ok-taken.taken in
    let bytes = c.args.bytes.now in
    let step = subst (λ (x : List ℕ). Advances (standing c.loop-at.self c.loop-at.memory) (standing c.answer_next.new.self c.answer_next.new.memory) (g.W.Write.contents c.loop-at.writer.inner) (g.W.Write.contents c.answer_next.new.writer.inner) (take taken x)
    c.loop-at.line c.answer_next.new.line) (take_rest bytes at) c.in_ok-taken.ensures.ok in
    record {
      within = omega (arith, c.in_ok-taken.ensures.most, ap length (take_rest bytes at), length-drop at bytes);
      no_failure = c.in_ok-taken.ensures.no_failure;
      unended = c.in_ok-taken.ensures.unended;
      advances = subst (λ (x : List ℕ). Advances (standing c.args.self.now c.args.memory.now) (standing c.answer_next.new.self c.answer_next.new.memory) (g.W.Write.contents c.args.writer.now.inner) (g.W.Write.contents c.answer_next.new.writer.inner) x
          c.args.line.now c.answer_next.new.line) (sym (take-add at taken bytes)) (Advances-then c.loop-at.invariant.advances step);
    }
