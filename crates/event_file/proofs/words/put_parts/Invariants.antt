use Rattle.std.proofs.Common.{◌≡◌, length, map, ◌++◌}
use Rattle.event_file.specs.Words.{parted_by}
use Rattle.event_file.proofs.words.put_parts.Given as goal

abbrev pub invariant-loop-part : goal.invariant-loop-part
invariant-loop-part g l = parted_by l.byte l.text ≡ map (λ p. p.now) l.parts.items ++ parted_by l.byte l.rest

abbrev pub decreases-loop-part : goal.decreases-loop-part
decreases-loop-part g l = length l.rest
