use Rattle.std.proofs.Common.{length, ◌-◌, ◌≤◌, take}
use Rattle.event_file.specs.Output.{Wrote}
use Rattle.event_file.proofs.output.write_bytes.Given as goal

abbrev pub invariant-loop-at : goal.invariant-loop-at
invariant-loop-at g l = (l.at ≤ length l.bytes) × Wrote g.W.Write.contents l.initial.writer l.writer (take l.at l.bytes)

abbrev pub decreases-loop-at : goal.decreases-loop-at
decreases-loop-at g l = length l.bytes - l.at
