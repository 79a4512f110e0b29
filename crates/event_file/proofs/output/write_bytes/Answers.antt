use Rattle.std.proofs.Common.{◌≡◌, ◌<◌, ◌≤◌, length, drop, arith, ◌∙◌, subst, take-append-drop, length-drop}
use Rattle.std.proofs.lemmas.List.{take_all}
use Rattle.std.proofs.Math.Seq.{take-add}
use Rattle.event_file.specs.Output.{WroteFront}
use Rattle.event_file.proofs.Fronts.{Wrote-nil, Wrote-then, Wrote-taken, WroteFront-then, WroteFront-failed, taken_fits, rest_is}
use Rattle.event_file.proofs.output.write_bytes.Goals as goal

pub loop-at-init : goal.loop-at-init
loop-at-init g c = (omega arith, Wrote-nil c.args.writer.now)

pub loop-at-preserved : goal.loop-at-preserved
loop-at-preserved g c =
    let w = rw rest_is at c.write.ensures in
    let rest = drop c.loop-at.at c.args.bytes.now in
    let n = c.unwrap_or-taken.ensures in
    let some = rw n at c.if-taken-eq0.false in
    let took = Wrote-taken c.loop-at.writer c.write.new.self c.write.result rest w.bytes w.reads w.failures some in
    let fits : c.unwrap_or-taken.result ≤ length rest = rw n (taken_fits c.write.result rest w.bound) in
    (omega (arith, length-drop c.loop-at.at c.args.bytes.now), rw (take-add, n) (Wrote-then c.loop-at.invariant.1 took))

pub returns-then-taken-eq0-clause-err : goal.returns-then-taken-eq0-clause-err
returns-then-taken-eq0-clause-err g c =
    let w = rw rest_is at c.write.ensures in
    let at = c.loop-at.at in
    let bytes = c.args.bytes.now in
    let clean : c.loop-at.writer.failures ≡ 0 = c.loop-at.invariant.1.failures ∙ c.requires in
    let none = rw c.unwrap_or-taken.ensures at c.if-taken-eq0.true in
    let some : 0 < length (drop at bytes) = omega (arith, length-drop at bytes) in
    let front = WroteFront-failed c.loop-at.writer c.write.new.self c.write.result (drop at bytes) w.bytes w.reads w.failures clean none some in
    subst (λ t. WroteFront g.W.Write.contents c.args.writer.now c.write.new.self t) (take-append-drop at bytes) (WroteFront-then c.loop-at.invariant.1 front)

pub returns-clause-ok : goal.returns-clause-ok
returns-clause-ok g c = rw (← take_all c.loop-at.at c.args.bytes.now c.loop-at-test.false) c.loop-at.invariant.1
