use Rattle.std.proofs.Common.{length, ◌-◌, ◌≤◌, drop, take}
use Rattle.event_file.proofs.MessageLines.{KeptMessages}
use Rattle.event_file.proofs.answers.write_messages.Given as goal

abbrev pub invariant-loop-at : goal.invariant-loop-at
invariant-loop-at g l = (l.at ≤ length l.bytes) × (l.end ≤ 4080) × KeptMessages g.W.Write.contents l.initial.writer l.writer l.bytes (drop l.at l.bytes) (take l.end l.buffer)

abbrev pub decreases-loop-at : goal.decreases-loop-at
decreases-loop-at g l = length l.bytes - l.at
