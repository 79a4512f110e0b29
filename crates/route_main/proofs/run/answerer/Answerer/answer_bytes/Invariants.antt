use Rattle.std.proofs.Common.{◌≡◌, ◌-◌, ◌≤◌, false, length, take}
use Rattle.route_main.specs.Progress.{Advances, standing}
use Rattle.route_main.proofs.run.answerer.Answerer.answer_bytes.Given as goal

abbrev pub invariant-loop-at : goal.invariant-loop-at
invariant-loop-at g l = record {
  within : l.at ≤ length l.bytes;
  no_failure : l.writer.failures ≡ 0;
  unended : l.line.ended ≡ false;
  advances : Advances (standing l.initial.self l.initial.memory) (standing l.self l.memory) (g.W.Write.contents l.initial.writer.inner) (g.W.Write.contents l.writer.inner) (take l.at l.bytes) l.initial.line l.line;
}

abbrev pub decreases-loop-at : goal.decreases-loop-at
decreases-loop-at g l = length l.bytes - l.at
