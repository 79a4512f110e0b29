use Rattle.std.proofs.Common.{length, ◌-◌, ◌≤◌, drop}
use Rattle.event_file.proofs.PutMessages.{PutLines}
use Rattle.event_file.proofs.answer_text.put_lines.Given as goal

abbrev pub invariant-loop-at : goal.invariant-loop-at
invariant-loop-at l = (l.at ≤ length l.bytes) × PutLines l.bytes (drop l.at l.bytes) l.initial.out l.out l.end

abbrev pub decreases-loop-at : goal.decreases-loop-at
decreases-loop-at l = length l.bytes - l.at
