use Rattle.std.proofs.Common.{◌≡◌, ◌+◌, ◌*◌, ◌-◌, ◌≤◌, length, drop}
use Rattle.route_core.specs.Received.{cut, AreMessages}
use Rattle.event_file.proofs.MessageLines.{lines}
use Rattle.event_file.proofs.answer_text.lines_size.Given as goal

abbrev pub invariant-loop-at : goal.invariant-loop-at
invariant-loop-at l = (l.at ≤ length l.bytes) × AreMessages (drop l.at l.bytes) × (l.size + length (lines (cut (drop l.at l.bytes))) ≡ length (lines (cut l.bytes))) × (l.size ≤ 7 * l.at)

abbrev pub decreases-loop-at : goal.decreases-loop-at
decreases-loop-at l = length l.bytes - l.at
